-- The small game with sets one below the other, as a tree. A coin is light or heavy, which player one doesn't see;
-- player two sees neither the coin nor player one's choice, and answers.
use Rattle.std.specs.Prelude.{pos, negsuc, [], ◌∷◌, ◌≡◌}
use Rattle.def_tree.specs.declared.Kind.TheVariants.{Chance, One, Two}
use Rattle.def_tree.specs.Tree.{Forest, forest_of}
use Rattle.def_game_scale.specs.Tables.{Tables}
use Rattle.def_tree.specs.Rules.{inner_node, leaf_node}
use Rattle.def_sequence_form.specs.Payments.{paid}
use Rattle.def_fraction.specs.Fraction.{one_over}
use Rattle.def_game_scale.specs.Scale.{game_mass, game_unit}
use Rattle.def_sequence_form.specs.Form.{form_of_game}
use Rattle.def_plan.specs.Payoff.{mass_of}
use Rattle.def_plan.specs.Hidden.{hidden}

abbrev pub hidden_tree : Forest
hidden_tree = forest_of (
    inner_node Chance 1 2 ∷ inner_node One 1 3 ∷ inner_node Two 1 3 ∷ inner_node One 2 2 ∷ inner_node Two 2 2
    ∷ leaf_node 1 ∷ leaf_node 2 ∷
    inner_node Two 2 2 ∷ leaf_node 3 ∷ leaf_node 4 ∷ leaf_node 5 ∷ leaf_node 6 ∷
    inner_node Two 1 3 ∷ leaf_node 7 ∷ leaf_node 8 ∷ leaf_node 9 ∷
    inner_node Two 1 3 ∷ leaf_node 10 ∷ leaf_node 11 ∷ leaf_node 12 ∷
    inner_node One 1 3 ∷ inner_node Two 1 3 ∷ leaf_node 13 ∷ leaf_node 14 ∷ leaf_node 15 ∷
    inner_node Two 1 3 ∷ leaf_node 16 ∷
    inner_node One 3 2 ∷ inner_node Two 3 2 ∷ leaf_node 17 ∷ leaf_node 18 ∷
    inner_node Two 3 2 ∷ leaf_node 19 ∷ leaf_node 20 ∷ leaf_node 21 ∷
    inner_node Two 1 3 ∷ leaf_node 22 ∷ leaf_node 23 ∷ leaf_node 24 ∷ [])

abbrev pub hidden_tables : Tables
hidden_tables = record {
  chance = (one_over 3 ∷ record { num = pos 2; den = 3 } ∷ []) ∷ [];
  outcomes =
      paid (negsuc 1) ∷ paid (negsuc 2) ∷ paid (pos 0) ∷ paid (negsuc 2) ∷ paid (pos 3) ∷ paid (pos 3) ∷
      paid (pos 3) ∷ paid (pos 2) ∷ paid (negsuc 0) ∷ paid (negsuc 2) ∷ paid (pos 3) ∷ paid (negsuc 3) ∷
      paid (pos 2) ∷ paid (pos 2) ∷ paid (negsuc 3) ∷ paid (pos 3) ∷ paid (pos 0) ∷ paid (negsuc 0) ∷
      paid (negsuc 2) ∷ paid (pos 1) ∷ paid (negsuc 3) ∷ paid (negsuc 3) ∷ paid (negsuc 3) ∷ paid (pos 4) ∷ [];
}

pub record HiddenRows : Type 0 where
  pub unit : game_unit hidden_tables hidden_tree ≡ 3
  pub mass : game_mass hidden_tables hidden_tree ≡ 94
  pub mass_of_leaves : mass_of hidden.leaves ≡ 94
  pub form : form_of_game hidden_tables hidden_tree ≡ hidden
