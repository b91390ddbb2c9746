-- What an entry says of its set and its outcome, and the names of a prologue, as reading has them.
use Rattle.def_fraction.specs.Fraction.{most}
use Rattle.std.specs.Prelude.{◌≡◌, ℕ, ◌≤◌, true, List, length, slice_get, option_map, Option, Result, Ok}
use Rattle.std.specs.Prelude.{Err}
use Rattle.def_file.specs.declared.FileFault.{FileFault}
use Rattle.def_file.specs.Content as content
use Rattle.def_file.specs.Faults.{has_set}
use Rattle.def_file.specs.Reading.{checked_names, nth_name}
use Rattle.xg_record.specs.Entry.{actions_seen}
use Rattle.xg_record.specs.declared.entry.EntryView.{EntryView}
use Rattle.xg_read.specs.declared.entries.SetMention.{SetMention}
use Rattle.xg_read.specs.declared.entries.OutcomeMention.{OutcomeMention}
use Rattle.xg_read.specs.declared.prologue.PlayerNames.{PlayerNames}
use Rattle.xg_read.specs.declared.prologue.PrologueTexts.{PrologueTexts}
use Rattle.xg_read.specs.declared.prologue.PrologueViews.{PrologueViews}
use Rattle.xg_read.specs.declared.prologue.BothNames.{BothNames}

abbrev pub set_mention_of : SetMention → content.SetMention
set_mention_of m = record { number = m.number; name = m.name; actions = option_map actions_seen m.actions }

abbrev pub outcome_mention_of : OutcomeMention → content.OutcomeMention
outcome_mention_of m = record { number = m.number; name = m.name; payoffs = option_map (λ p. p.now) m.payoffs }

-- the numbers of an entry are those that an entry may have
pub record HasNumbers (r : EntryView) : Type 0 where
  pub outcome : r.outcome ≤ most
  pub set : has_set r.kind ≡ true → (1 ≤ r.set) × (r.set ≤ most)

abbrev pub prologue_of : PrologueViews → content.Prologue
prologue_of p = record { title = p.title; one = p.one; two = p.two; comment = p.comment }

abbrev pub read_prologue : PrologueTexts → content.Prologue
read_prologue p = record { title = p.title; one = p.one; two = p.two; comment = p.comment }

-- the first two of some names, and how many there are
pub record AreFirstNames (names : List (List ℕ)) (first second : Option (List ℕ)) (count : ℕ) : Type 0 where
  pub first_is : first ≡ slice_get names 0
  pub second_is : second ≡ slice_get names 1
  pub count_is : count ≡ length names

-- the names that were read, by their summary
abbrev pub GivesNames : Result PlayerNames FileFault → ℕ → Result (List (List ℕ) × ℕ) FileFault → Type 0
GivesNames (Ok n) at read = (names : List (List ℕ)) × (read ≡ Ok (names, at)) × AreFirstNames names n.one n.two n.count
GivesNames (Err fault) at read = read ≡ Err fault

-- the names of both players, where there are two, and else the fault
abbrev pub IsBoth : List (List ℕ) → Result BothNames FileFault → Type 0
IsBoth names (Ok p) = ((at : ℕ) → checked_names names at ≡ Ok at) × (p.one ≡ nth_name names 0)
    × (p.two ≡ nth_name names 1)
IsBoth names (Err fault) = (at : ℕ) → checked_names names at ≡ Err fault
