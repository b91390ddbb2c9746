-- The canonical form of a game is a file that stands for this game.
use Rattle.std.specs.Prelude.{◌≡◌, ℕ, ◌≤◌, List, [], ◌∷◌, length, Ok, None}
use Rattle.def_tree.specs.declared.Kind.{Kind}
use Rattle.def_tree.specs.Rules.{most_nodes}
use Rattle.def_tree.specs.Tree.{IsWhole}
use Rattle.def_file.specs.Content.{SetMention, OutcomeMention, Prologue, Record, Contents, GameFile, game_with}
use Rattle.def_file.specs.Content.{no_contents}
use Rattle.def_file.specs.Faults.{record_fault}
use Rattle.def_file.specs.Adding.{with_record}
use Rattle.def_file.specs.Reading.{game_at}
use Rattle.def_file.specs.Entries.{contents_of, game_of_entries}
use Rattle.def_file.specs.EntryLaws.{HaveNoFault}
use Rattle.def_file_form.specs.Laws.{StandsFor}
use Rattle.def_canon.specs.Canon.{canon}
use Rattle.def_canon.specs.Described.{Each, Describes}
use Rattle.def_canon.specs.Writable.{GivesWritable, IsPlainPrologue, IsWritable}

-- a game of entries of one whole tree that describe their sets and outcomes whole, each in one way,
-- and that can be written
pub record IsOfEntries (game : GameFile) : Type 0 where
  pub prologue : Prologue
  pub entries : List Record
  pub sets : Kind → ℕ → SetMention
  pub outcomes : ℕ → OutcomeMention
  pub plain : IsPlainPrologue prologue
  pub described : Each (Describes sets outcomes) entries
  pub writable : Each IsWritable entries
  pub few : length entries ≤ most_nodes
  pub whole : IsWhole (contents_of entries).nodes
  pub game_is : game ≡ game_of_entries prologue entries

-- the canonical form of a game of described entries stands for this game
abbrev pub CanonStandsForGame : Type 0
CanonStandsForGame = (game : GameFile) → IsOfEntries game → StandsFor (canon game) game

-- so it is read as this game
abbrev pub CanonIsReadBack : Type 0
CanonIsReadBack = (game : GameFile) → IsOfEntries game → game_at (canon game) ≡ Ok game

-- a game of entries of one whole tree that have no fault,
-- of which each gives what can be written and may leave out the rest
pub record IsOfFaultless (game : GameFile) : Type 0 where
  pub prologue : Prologue
  pub entries : List Record
  pub plain : IsPlainPrologue prologue
  pub writable : Each GivesWritable entries
  pub no_fault : HaveNoFault entries
  pub whole : IsWhole (contents_of entries).nodes
  pub game_is : game ≡ game_of_entries prologue entries

-- the canonical form of a game of entries without a fault stands for this game
abbrev pub CanonOfFaultless : Type 0
CanonOfFaultless = (game : GameFile) → IsOfFaultless game → StandsFor (canon game) game

-- a game that a file stands for is written and read back as it was
abbrev pub CanonOfFile : Type 0
CanonOfFile = (bytes : List ℕ) (game : GameFile) → StandsFor bytes game
    → StandsFor (canon game) game × (game_at (canon game) ≡ Ok game)

-- what is known once these entries were taken one after another, none of them with a fault
abbrev pub AreTakenInTurn : Contents → List Record → Contents → Type 0
AreTakenInTurn before [] now = now ≡ before
AreTakenInTurn before (r ∷ rs) now = (record_fault before r ≡ None) × AreTakenInTurn (with_record before r) rs now

-- a game that was made entry by entry is read back, too
abbrev pub CanonOfMade : Type 0
CanonOfMade = (prologue : Prologue) (rs : List Record) (made : Contents) → IsPlainPrologue prologue
    → Each GivesWritable rs
    → AreTakenInTurn no_contents rs made → IsWhole made.nodes
    → StandsFor (canon (game_with prologue made)) (game_with prologue made)
    × (game_at (canon (game_with prologue made)) ≡ Ok (game_with prologue made))
