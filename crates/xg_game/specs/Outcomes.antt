-- An outcome of a table, as the content of a file has it.
use Rattle.std.specs.Prelude.{ℕ, List, All}
use Rattle.def_file.specs.Content.{OutcomeEntry}
use Rattle.def_file.specs.Game.{IsSmallFraction}
use Rattle.xg_game.specs.declared.outcomes.PayoffPair.{PayoffPair}
use Rattle.xg_game.specs.declared.table.Described.{Described}

abbrev pub outcome_entry_of : ℕ × Described PayoffPair → OutcomeEntry
outcome_entry_of (number, known) = record {
  number = number;
  name = known.name;
  one = known.value.one;
  two = known.value.two;
}

-- what each outcome pays is in lowest terms and within the limit
pub record HaveSmallPayoffs (outcomes : List OutcomeEntry) : Type 0 where
  pub one : All (λ outcome. IsSmallFraction outcome.one) outcomes
  pub two : All (λ outcome. IsSmallFraction outcome.two) outcomes
