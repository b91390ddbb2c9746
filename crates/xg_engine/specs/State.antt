-- What an engine has: a game in numbers, and what its last run left.
use Rattle.std.specs.Prelude.{◌≡◌, ℕ, ◌≤◌, List, length, Option}
use Rattle.def_sums.specs.Limits.{most_rounds, most_scale}
use Rattle.def_plan.specs.Form.{sequence_count}
use Rattle.def_plan.specs.Payoff.{mass_of}
use Rattle.def_reply.specs.Outcome.{Head, Outcome}
use Rattle.def_round.specs.Rounds.{Standing}
use Rattle.def_plus.specs.declared.Variant.{Variant}
use Rattle.def_plus.specs.Variants.{most_rounds_of, most_scale_of}
use Rattle.def_plan.specs.Weighed.{WeighedGame}
use Rattle.def_command.specs.declared.Settings.{Settings}

-- the sums of each player's plans over the rounds of a run
pub record SumsOfPlans : Type 0 where
  pub one : List ℕ
  pub two : List ℕ

-- the outcome of the last run and its sums are there where that run had the memory that it needed
pub record EngineState : Type 0 where
  pub game : WeighedGame
  pub outcome : Option Outcome
  pub sums : Option SumsOfPlans

abbrev pub sums_of : Standing → SumsOfPlans
sums_of standing = record { one = standing.sum_one; two = standing.sum_two }

-- the game's numbers, and what these settings ask
abbrev pub head_with : WeighedGame → Settings → Head
head_with game settings = record {
  nodes = game.nodes;
  leaves = length game.form.leaves;
  sets_one = length game.form.sets_one;
  sets_two = length game.form.sets_two;
  sequences_one = sequence_count game.form.sets_one;
  sequences_two = sequence_count game.form.sets_two;
  unit = game.unit;
  sum = game.sum;
  mass = mass_of game.form.leaves;
  rounds = settings.rounds;
  every = settings.every;
  scale = settings.scale;
}

-- the head has these settings
pub record Asks (settings : Settings) (head : Head) : Type 0 where
  pub rounds : head.rounds ≡ settings.rounds
  pub every : head.every ≡ settings.every
  pub scale : head.scale ≡ settings.scale

-- what may be asked of a run of plain rounds
pub record AreWithinLimits (settings : Settings) : Type 0 where
  pub few_rounds : settings.rounds ≤ most_rounds
  pub some_every : 1 ≤ settings.every
  pub small_every : settings.every ≤ most_rounds
  pub some_scale : 1 ≤ settings.scale
  pub small_scale : settings.scale ≤ most_scale

-- what may be asked of a run of rounds of the variant
pub record AreWithinLimitsOf (variant : Variant) (settings : Settings) : Type 0 where
  pub few_rounds : settings.rounds ≤ most_rounds_of variant
  pub some_every : 1 ≤ settings.every
  pub small_every : settings.every ≤ most_rounds
  pub some_scale : 1 ≤ settings.scale
  pub small_scale : settings.scale ≤ most_scale_of variant
