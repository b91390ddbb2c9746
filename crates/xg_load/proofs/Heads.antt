-- The numbers of a game that are told, with what is asked.
use Rattle.std.proofs.Common.{◌≡◌, length}
use Rattle.def_tree.specs.Tree.{node_count}
use Rattle.def_file.specs.Content.{GameFile}
use Rattle.def_game_scale.specs.Tables.{game_sum}
use Rattle.def_game_scale.specs.Scale.{game_unit}
use Rattle.def_game_numbers.specs.Numbers.{tables_of}
use Rattle.def_game_numbers.specs.Weighed.{weighed_game}
use Rattle.def_plan.specs.Form.{sequence_count}
use Rattle.def_sequence_form.proofs.Leaves.{form_has_the_mass}
use Rattle.def_program.specs.Text.{form_of_file, game_head}
use Rattle.def_program.proofs.Played.{leaves_are}
use Rattle.xg_engine.specs.State.{head_with}
use Rattle.def_command.specs.declared.Settings.{Settings}

-- the head of a run is the game's head
pub run_head_is : (game : GameFile) (settings : Settings)
    → head_with (weighed_game game) settings ≡ game_head game settings
run_head_is game settings = λ i. record {
  nodes = node_count game.tree;
  leaves = leaves_are game i;
  sets_one = length (form_of_file game).sets_one;
  sets_two = length (form_of_file game).sets_two;
  sequences_one = sequence_count (form_of_file game).sets_one;
  sequences_two = sequence_count (form_of_file game).sets_two;
  unit = game_unit (tables_of game) game.tree;
  sum = game_sum (tables_of game) game.tree;
  mass = form_has_the_mass.of_game (tables_of game) game.tree i;
  rounds = settings.rounds;
  every = settings.every;
  scale = settings.scale;
}
