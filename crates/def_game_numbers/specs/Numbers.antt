-- The numbers of a game file, and what weighing its leaves answers.
--     tables_of game          its probabilities and payoffs
--     file_fault fault        a fault of the game, as one of its file
--     weigh game              the sum, the unit, the weights and the mass, or the first fault of the numbers
--     game_file_fault game    the first fault of the file's game
use Rattle.std.specs.Prelude.{ℕ, ℤ, List, map, Option, Some, None, Result, Ok, Err}
use Rattle.def_tree.specs.Tree.{Forest}
use Rattle.def_fraction.specs.Fraction.{Fraction}
use Rattle.def_file.specs.declared.FileFault.{FileFault}
use Rattle.def_file.specs.declared.FileFault.TheVariants as faults
use Rattle.def_file.specs.Content.{GameFile, OutcomeEntry}
use Rattle.def_file.specs.Game.{chances_of}
use Rattle.def_game_scale.specs.Tables.{PayoffPair, Tables, game_sum}
use Rattle.def_game_scale.specs.Scale.{game_mass, game_unit, weights}
use Rattle.def_game_scale.specs.Faults.{GameFault, ChanceNegative, ChanceSum, NotConstantSum, NotRecall, Scale}
use Rattle.def_game_scale.specs.Faults.{game_fault, number_fault}

abbrev pub payoffs_given : OutcomeEntry → PayoffPair
payoffs_given outcome = record { one = outcome.one; two = outcome.two }

abbrev pub tables_of : GameFile → Tables
tables_of game = record { chance = map chances_of game.sets.chance; outcomes = map payoffs_given game.outcomes }

abbrev pub file_fault : GameFault → FileFault
file_fault (ChanceNegative node) = faults.ChanceNegative node
file_fault (ChanceSum node) = faults.ChanceSum node
file_fault (NotConstantSum node) = faults.NotConstantSum node
file_fault (NotRecall node earlier) = faults.NotRecall node earlier
file_fault (Scale node) = faults.Scale node

abbrev pub as_file_fault : Option GameFault → Option FileFault
as_file_fault None = None
as_file_fault (Some fault) = Some (file_fault fault)

abbrev pub game_file_fault : GameFile → Option FileFault
game_file_fault game = as_file_fault (game_fault (tables_of game) game.tree)

-- what each leaf pays both players together, the unit, the mass, and the weights of the leaves in prefix order
pub record GameWeights : Type 0 where
  pub sum : Fraction
  pub unit : ℕ
  pub mass : ℕ
  pub leaves : List ℤ

abbrev pub weights_of_game : Tables → Forest → GameWeights
weights_of_game tables tree = record {
  sum = game_sum tables tree;
  unit = game_unit tables tree;
  mass = game_mass tables tree;
  leaves = weights tables tree;
}

abbrev pub refused_or : {A : Type 0} → Option GameFault → A → Result A FileFault
refused_or None answer = Ok answer
refused_or (Some fault) answer = Err (file_fault fault)

abbrev pub weigh : GameFile → Result GameWeights FileFault
weigh game = refused_or (number_fault (tables_of game) game.tree) (weights_of_game (tables_of game) game.tree)
