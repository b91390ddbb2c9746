-- The smallest games as trees: matching pennies, where player two doesn't see player one's choice; a choice between 1
-- and nothing; and a choice among three actions that are worth nothing.
use Rattle.std.specs.Prelude.{◌≡◌, pos, negsuc, [], ◌∷◌}
use Rattle.def_tree.specs.declared.Kind.TheVariants.{One}
use Rattle.def_tree.specs.Tree.{Forest, forest_of}
use Rattle.def_game_scale.specs.Tables.{Tables}
use Rattle.def_game_scale.specs.Scale.{game_mass, game_unit}
use Rattle.def_plan.specs.Pennies.{pennies}
use Rattle.def_plan.specs.SmallForms.{one_mover, three_actions}
use Rattle.def_sequence_form.specs.Form.{form_of_game}
use Rattle.def_tree.specs.Rules.{inner_node, leaf_node, matching_pennies}
use Rattle.def_sequence_form.specs.Payments.{paid}

abbrev pub pennies_tables : Tables
pennies_tables = record { chance = []; outcomes = paid (pos 1) ∷ paid (negsuc 0) ∷ [] }

abbrev pub one_mover_tree : Forest
one_mover_tree = forest_of (inner_node One 1 2 ∷ leaf_node 1 ∷ leaf_node 2 ∷ [])

abbrev pub one_mover_tables : Tables
one_mover_tables = record { chance = []; outcomes = paid (pos 1) ∷ paid (pos 0) ∷ [] }

abbrev pub three_actions_tree : Forest
three_actions_tree = forest_of (inner_node One 1 3 ∷ leaf_node 1 ∷ leaf_node 1 ∷ leaf_node 1 ∷ [])

abbrev pub three_actions_tables : Tables
three_actions_tables = record { chance = []; outcomes = paid (pos 0) ∷ [] }

-- the forms of these trees are those from which the rows of plans, rounds and replies begin
pub record SmallRows : Type 0 where
  pub pennies_form : form_of_game pennies_tables matching_pennies ≡ pennies
  pub pennies_unit : game_unit pennies_tables matching_pennies ≡ 1
  pub pennies_mass : game_mass pennies_tables matching_pennies ≡ 4
  pub one_mover_form : form_of_game one_mover_tables one_mover_tree ≡ one_mover
  pub three_actions_sets : (form_of_game three_actions_tables three_actions_tree).sets_one ≡ three_actions
  pub three_actions_mass : game_mass three_actions_tables three_actions_tree ≡ 0
