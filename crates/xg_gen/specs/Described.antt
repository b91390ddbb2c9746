-- A set or an outcome as it is described whole, as the content of a file has it.
use Rattle.std.specs.Prelude.{ℕ, ◌≤◌, List, [], ◌∷◌, Some}
use Rattle.def_fraction.specs.Fraction.{most}
use Rattle.def_file.specs.declared.EntryKind.{EntryKind}
use Rattle.def_file.specs.Content.{Action, Record, SetMention, OutcomeMention, leaf_record, no_outcome_mention}
use Rattle.xg_gen.specs.declared.entries.Entry.{Entry}
use Rattle.xg_gen.specs.declared.entries.Entry.TheVariants.{Move, End}
use Rattle.xg_gen.specs.declared.mentions.NamedSet.{NamedSet}
use Rattle.xg_gen.specs.declared.mentions.DescribedOutcome.{DescribedOutcome}

-- a set with these actions
abbrev pub mention_of_set : NamedSet → List Action → SetMention
mention_of_set s actions = record { number = s.number; name = Some s.name; actions = Some actions }

abbrev pub mention_of_outcome : DescribedOutcome → OutcomeMention
mention_of_outcome o = record { number = o.number; name = Some o.name; payoffs = Some o.payoffs }

-- the entry where chance or a player moves
abbrev pub move_record : EntryKind → ℕ → SetMention → Record
move_record kind player set = record { kind = kind; name = []; player = player; set = set; outcome = no_outcome_mention }

-- an entry
abbrev pub record_of : Entry → Record
record_of (Move kind player set actions) = move_record kind player (mention_of_set set.now actions.now)
record_of (End outcome) = leaf_record (mention_of_outcome outcome.now)

abbrev pub records_of : List Entry → List Record
records_of [] = []
records_of (entry ∷ entries) = record_of entry ∷ records_of entries

-- the number of the set or of the outcome is in range
abbrev pub IsNumbered : Entry → Type 0
IsNumbered (Move kind player set actions) = (1 ≤ set.now.number) × (set.now.number ≤ most)
IsNumbered (End outcome) = outcome.now.number ≤ most

abbrev pub AreNumbered : List Entry → Type 0
AreNumbered [] = Unit {0}
AreNumbered (entry ∷ entries) = IsNumbered entry × AreNumbered entries
