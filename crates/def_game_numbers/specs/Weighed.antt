-- A file's game in numbers.
use Rattle.def_tree.specs.Tree.{node_count}
use Rattle.def_file.specs.Content.{GameFile}
use Rattle.def_game_scale.specs.Tables.{game_sum}
use Rattle.def_game_scale.specs.Scale.{game_unit}
use Rattle.def_game_numbers.specs.Numbers.{tables_of}
use Rattle.def_sequence_form.specs.Form.{form_of_game}
use Rattle.def_plan.specs.Weighed.{WeighedGame}

-- its nodes, what each leaf pays both players together, the unit of its weights, and its sequence form
abbrev pub weighed_game : GameFile → WeighedGame
weighed_game game = record {
  nodes = node_count game.tree;
  sum = game_sum (tables_of game) game.tree;
  unit = game_unit (tables_of game) game.tree;
  form = form_of_game (tables_of game) game.tree;
}
