-- What a game's accessors say.
use Rattle.std.specs.Prelude.{ℕ, ◌-◌, nat_eq, if◌then◌else◌, List}
use Rattle.def_fraction.specs.Fraction.{Fraction}
use Rattle.def_tree.specs.declared.Player.{Player}
use Rattle.def_tree.specs.declared.Player.TheVariants.{One, Two}
use Rattle.def_file.specs.Content.{Prologue, OutcomeEntry}
use Rattle.def_file.specs.Faults.{null_outcome, outcome_at}

-- a player's name
abbrev pub name_of : Player → Prologue → List ℕ
name_of One prologue = prologue.one
name_of Two prologue = prologue.two

-- outcomes count from 1, and outcome 0 is the null outcome
abbrev pub outcome_numbered : ℕ → List OutcomeEntry → OutcomeEntry
outcome_numbered number outcomes = if nat_eq number 0 then null_outcome else outcome_at outcomes (number - 1)

abbrev pub payoff_to : Player → OutcomeEntry → Fraction
payoff_to One outcome = outcome.one
payoff_to Two outcome = outcome.two
