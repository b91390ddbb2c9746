-- The form of a game in numbers is that of its tree.
use Rattle.std.proofs.Common.{refl, ◌∙◌}
use Rattle.std.proofs.lemmas.List.{length-map}
use Rattle.def_tree.specs.Tree.{Forest}
use Rattle.def_game_paths.specs.Paths.{leaf_visits}
use Rattle.def_game_scale.specs.Scale.{all_expected, expected, weights}
use Rattle.def_game_scale.specs.Tables.{Tables}
use Rattle.def_sequence_form.proofs.Leaves.{leaves_counted}
use Rattle.def_sequence_form.specs.Form.{form_of_game}
use Rattle.xg_jobs.specs.Table.{IsFormOf}

-- the form of a game is that of its tree, by a weight for each leaf
pub form_of_tree : (tables : Tables) (tree : Forest) → IsFormOf (form_of_game tables tree) tree
form_of_tree tables tree = record {
  weights = weights tables tree;
  count = length-map (all_expected tables tree) _ ∙ length-map (leaf_visits tree) (expected tables) ∙ leaves_counted tree;
  form_is = refl;
}
