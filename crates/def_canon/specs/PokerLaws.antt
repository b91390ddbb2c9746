-- One-card poker is a game, and its canonical form is read as this game.
use Rattle.std.specs.Prelude.{◌≡◌, ℕ, ◌≤◌, length, Ok}
use Rattle.def_tree.specs.Tree.{IsWhole}
use Rattle.def_file.specs.Reading.{game_at}
use Rattle.def_file.specs.Entries.{contents_of}
use Rattle.def_file.specs.EntryLaws.{HaveNoFault}
use Rattle.def_file_form.specs.Laws.{StandsFor}
use Rattle.def_canon.specs.Canon.{canon}
use Rattle.def_canon.specs.Poker.{entries, poker}

-- with 2 to 64 cards no entry has a fault, and the nodes are one whole tree
abbrev pub PokerIsGame : Type 0
PokerIsGame = (n : ℕ) → 2 ≤ n → n ≤ 64 → HaveNoFault (entries n) × IsWhole (contents_of (entries n)).nodes

-- with 2 to 64 cards the canonical form of poker stands for poker and is read as it
abbrev pub PokerIsReadBack : Type 0
PokerIsReadBack = (n : ℕ) → 2 ≤ n → n ≤ 64 → StandsFor (canon (poker n)) (poker n)
    × (game_at (canon (poker n)) ≡ Ok (poker n))

-- with 2 to 64 cards the canonical form of poker isn't too long to be read
abbrev pub PokerIsShort : Type 0
PokerIsShort = (n : ℕ) → 2 ≤ n → n ≤ 64 → length (canon (poker n)) ≤ 67108864
