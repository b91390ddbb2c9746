-- What is known with one more entry is what all entries say,
-- and the fault of an entry is that of the first rule that it breaks.
use Rattle.std.specs.Prelude.{◌≡◌, ◌↔◌, List, [], ◌∷◌, ◌++◌, Some, None}
use Rattle.def_tree.specs.Tree.{IsWhole}
use Rattle.def_file.specs.declared.FileFault.{FileFault}
use Rattle.def_file.specs.Content.{Prologue, Record, no_contents}
use Rattle.def_file.specs.Faults.{record_fault}
use Rattle.def_file.specs.Adding.{with_record}
use Rattle.def_file.specs.Game.{IsWholeGame}
use Rattle.def_file.specs.Entries.{contents_of, game_of_entries}
use Rattle.def_file.specs.EntryRules.{BreaksNone, IsFirstBroken}

-- before the first entry nothing is known
abbrev pub NothingIsKnown : Type 0
NothingIsKnown = contents_of [] ≡ no_contents

-- what is known with one more entry is what all entries say
abbrev pub OneMoreIsKnown : Type 0
OneMoreIsKnown = (rs : List Record) (r : Record) → contents_of (rs ++ r ∷ []) ≡ with_record (contents_of rs) r

-- no entry breaks a rule behind those before it
abbrev pub HaveNoFault : List Record → Type 0
HaveNoFault rs = (before behind : List Record) (r : Record) → rs ≡ before ++ r ∷ behind → BreaksNone before r

-- behind entries without a fault, the fault of one more entry is that of the least number among the rules that it
-- breaks
abbrev pub EntryFaultIsFirstBroken : Type 0
EntryFaultIsFirstBroken =
    (rs : List Record) (r : Record) (fault : FileFault) → HaveNoFault rs
    → (record_fault (contents_of rs) r ≡ Some fault) ↔ IsFirstBroken rs r fault

-- behind entries without a fault, one more entry has no fault exactly where it breaks no rule
abbrev pub NoFaultBreaksNone : Type 0
NoFaultBreaksNone = (rs : List Record) (r : Record) → HaveNoFault rs
    → (record_fault (contents_of rs) r ≡ None) ↔ BreaksNone rs r

-- entries without a fault whose nodes are a whole tree are a game whose sets and outcomes go with the tree
abbrev pub EntriesMakeWholeGame : Type 0
EntriesMakeWholeGame = (prologue : Prologue) (rs : List Record) → HaveNoFault rs → IsWhole (contents_of rs).nodes
    → IsWholeGame (game_of_entries prologue rs)
