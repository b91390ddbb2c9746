-- The sets, the form and the list of leaves of small games.
use Rattle.std.specs.Prelude.{◌≡◌, pos, negsuc, [], ◌∷◌, None, Ok, Err}
use Rattle.def_tree.specs.declared.Kind.TheVariants.{Chance, One, Two}
use Rattle.def_tree.specs.Tree.{Forest, forest_of}
use Rattle.def_tree.specs.Rules.{inner_node, leaf_node, matching_pennies}
use Rattle.def_fraction.specs.Fraction.{whole_number, over}
use Rattle.def_game_paths.specs.Rows.{absent_driver, absent_partner}
use Rattle.def_game_scale.specs.Tables.{Tables}
use Rattle.def_plan.specs.Pennies.{pennies}
use Rattle.def_sequence_form.specs.Form.{form_of, leaf_list}
use Rattle.def_sequence_form.specs.Sets.{sets_or_break}

-- player one goes up, where player two has three actions, or down, and then moves again
abbrev pub uneven_game : Forest
uneven_game = forest_of (inner_node One 1 2 ∷ inner_node Two 1 3 ∷ leaf_node 0 ∷ leaf_node 0 ∷ leaf_node 0
    ∷ inner_node One 2 2 ∷ leaf_node 0 ∷ leaf_node 0 ∷ [])

pub record FormRows : Type 0 where
  pub pennies_form : form_of matching_pennies (pos 1 ∷ negsuc 0 ∷ negsuc 0 ∷ pos 1 ∷ []) ≡ pennies
  pub uneven_form : form_of uneven_game (pos 1 ∷ pos 2 ∷ pos 3 ∷ pos 4 ∷ pos 5 ∷ []) ≡ record {
    sets_one = record { before = 0; actions = 2 } ∷ record { before = 2; actions = 2 } ∷ [];
    sets_two = record { before = 0; actions = 3 } ∷ [];
    leaves = record { sequence_one = 1; sequence_two = 1; weight = pos 1 }
        ∷ record { sequence_one = 1; sequence_two = 2; weight = pos 2 }
        ∷ record { sequence_one = 1; sequence_two = 3; weight = pos 3 }
        ∷ record { sequence_one = 3; sequence_two = 0; weight = pos 4 }
        ∷ record { sequence_one = 4; sequence_two = 0; weight = pos 5 }
        ∷ [];
  }
  pub uneven_sets : sets_or_break uneven_game ≡ Ok (record {
    one = record {
      sets = record { before = 0; actions = 2 } ∷ record { before = 2; actions = 2 } ∷ [];
      first_nodes = 1
          ∷ 6 ∷ [];
      at_nodes = 0 ∷ 1 ∷ 1 ∷ 1 ∷ 1 ∷ 2 ∷ 3 ∷ 4 ∷ [];
    };
    two = record {
      sets = record { before = 0; actions = 3 } ∷ [];
      first_nodes = 2 ∷ [];
      at_nodes = 0 ∷ 0 ∷ 1 ∷ 2 ∷ 3
          ∷ 0 ∷ 0 ∷ 0 ∷ [];
    };
    next_nodes = None ∷ None ∷ None ∷ None ∷ None ∷ None ∷ None ∷ None ∷ [];
  })
  pub absent_sets : sets_or_break absent_driver ≡ Err (record { node = 3; earlier = 1 })
  pub partner_sets : sets_or_break absent_partner ≡ Err (record { node = 6; earlier = 2 })

-- at odds of one to two the game ends at once, or player one moves. It isn't of constant sum
abbrev pub early_end : Forest
early_end = forest_of (inner_node Chance 1 2 ∷ leaf_node 1 ∷ inner_node One 1 2 ∷ leaf_node 2 ∷ leaf_node 0 ∷ [])

abbrev pub early_end_tables : Tables
early_end_tables = record {
  chance = (over (pos 1) 3 ∷ over (pos 2) 3 ∷ []) ∷ [];
  outcomes = record { one = whole_number (pos 5); two = whole_number (pos 7) }
      ∷ record { one = whole_number (negsuc 1); two = over (pos 1) 3 } ∷ [];
}

pub record LeafListRows : Type 0 where
  pub early_end_leaves : leaf_list early_end_tables early_end
      ≡ record {
        reach = over (pos 1) 3;
        payoff_one = whole_number (pos 5);
        payoff_two = whole_number (pos 7);
        choices_one = [];
        choices_two = [];
      }
      ∷ record {
        reach = over (pos 2) 3;
        payoff_one = whole_number (negsuc 1);
        payoff_two = over (pos 1) 3;
        choices_one = record { set = 1; action = 1 } ∷ [];
        choices_two = [];
      }
      ∷ record {
        reach = over (pos 2) 3;
        payoff_one = whole_number (pos 0);
        payoff_two = whole_number (pos 0);
        choices_one = record { set = 1; action = 2 } ∷ [];
        choices_two = [];
      }
      ∷ []
