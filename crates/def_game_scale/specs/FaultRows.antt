-- The first faults of small games.
use Rattle.std.specs.Prelude.{◌≡◌, ℕ, ℤ, pos, negsuc, List, [], ◌∷◌, Option, Some, None}
use Rattle.def_tree.specs.declared.Kind.TheVariants.{Chance, One, Leaf}
use Rattle.def_tree.specs.Tree.{Forest, forest_of}
use Rattle.def_tree.specs.Rules.{node_of_numbers}
use Rattle.def_fraction.specs.Fraction.{Fraction, whole_number, over, zero_fraction}
use Rattle.def_game_paths.specs.Rows.{absent_driver}
use Rattle.def_game_scale.specs.Tables.{PayoffPair, Tables, game_sum}
use Rattle.def_game_scale.specs.Rows.{inner, inner_tables, tosses, toss_tables}
use Rattle.def_game_scale.specs.Scale.{game_mass, game_unit, weights}
use Rattle.def_game_scale.specs.Faults.{GameFault, ChanceNegative, ChanceSum, NotConstantSum, NotRecall, Scale}
use Rattle.def_game_scale.specs.Faults.{game_fault}
use Rattle.def_game_scale.specs.Examples as examples
use Rattle.def_game_scale.specs.Examples.{Example}

abbrev pays_whole : ℤ → ℤ → PayoffPair
pays_whole one two = examples.pays (whole_number one) (whole_number two)

-- chance, and a choice whose payoffs add up to 0 beside a leaf where they don't
abbrev sum_game : Forest
sum_game = forest_of (node_of_numbers Chance 1 0 2 ∷ node_of_numbers One 1 0 2 ∷ node_of_numbers Leaf 0 1 0
    ∷ node_of_numbers Leaf 0 2 0 ∷ node_of_numbers Leaf 0 3 0 ∷ [])

abbrev sum_tables : Fraction → Fraction → Tables
sum_tables p q = record {
  chance = (p ∷ q ∷ []) ∷ [];
  outcomes = pays_whole (pos 4) (negsuc 3)
      ∷ pays_whole (pos 0) (pos 0) ∷ pays_whole (pos 10) (pos 2) ∷ [];
}

-- three draws of this probability each
abbrev three_chances : Fraction → Tables
three_chances p = record { chance = (p ∷ p ∷ p ∷ []) ∷ []; outcomes = [] }

-- chance below chance, with a probability whose square is too small
abbrev rare : Forest
rare = forest_of (node_of_numbers Chance 1 0 2 ∷ node_of_numbers Chance 1 0 2 ∷ node_of_numbers Leaf 0 0 0
    ∷ node_of_numbers Leaf 0 0 0 ∷ node_of_numbers Leaf 0 0 0 ∷ [])

pub record GameFaultRows : Type 0 where
  pub sum : game_fault (sum_tables (over (pos 1) 2) (over (pos 1) 2)) sum_game ≡ Some (NotConstantSum 5)
  pub negative : game_fault (sum_tables (over (negsuc 0) 2) (over (pos 3) 2)) sum_game
      ≡ Some (ChanceNegative 1)
  pub decimals : game_fault (three_chances (over (pos 333333) 1000000)) (forest_of examples.draw_of_three)
      ≡ Some (ChanceSum 1)
  pub exact : game_fault (three_chances (over (pos 1) 3)) (forest_of examples.draw_of_three) ≡ None
  pub rare : game_fault (record {
    chance = (over (pos 1) 4294967296 ∷ over (pos 4294967295) 4294967296 ∷ []) ∷ [];
    outcomes = [];
  }) rare ≡ Some (Scale 3)
  pub absent : game_fault (record {
    chance = [];
    outcomes = pays_whole (pos 4) (negsuc 3)
        ∷ pays_whole (pos 1) (negsuc 0) ∷ [];
  }) absent_driver ≡ Some (NotRecall 3 1)
  pub tosses : game_fault toss_tables tosses ≡ None
  pub inner : game_fault inner_tables inner ≡ None

-- Of the walks and of the tests at a node the first that fails decides.

abbrev pub first_fault_of : Example → Option GameFault
first_fault_of game = game_fault game.tables game.tree

pub record OrderRows : Type 0 where
  pub negative_before_sum : first_fault_of examples.negative_before_sum ≡ Some (ChanceNegative 2)
  pub running_sum_in_one_set : first_fault_of examples.running_sum_in_one_set ≡ Some (Scale 1)
  pub sum_before_later_running_sum : first_fault_of examples.sum_before_later_running_sum ≡ Some (ChanceSum 1)
  pub running_sum_before_later_sum : first_fault_of examples.running_sum_before_later_sum ≡ Some (Scale 1)
  pub sum_before_leaf : first_fault_of examples.sum_before_leaf ≡ Some (ChanceSum 1)
  pub rare_deals : first_fault_of examples.rare_deals ≡ Some (Scale 3)
  pub gain_past_limit : first_fault_of examples.gain_past_limit ≡ Some (Scale 2)
  pub loss_past_limit : first_fault_of examples.loss_past_limit ≡ Some (Scale 2)
  pub gain_and_loss_past_limit : first_fault_of examples.gain_and_loss_past_limit ≡ Some (Scale 2)
  pub gain_past_limit_at_leaf : first_fault_of examples.gain_past_limit_at_leaf ≡ Some (Scale 4)
  pub fraction_of_another_sum : first_fault_of examples.fraction_of_another_sum ≡ Some (NotConstantSum 3)
  pub fraction_past_limit : first_fault_of examples.fraction_past_limit ≡ Some (Scale 2)
  pub unit_past_limit : first_fault_of examples.unit_past_limit ≡ Some (Scale 3)
  pub heavy_of_another_sum : first_fault_of examples.heavy_of_another_sum ≡ Some (NotConstantSum 4)
  pub mass_by_one : first_fault_of examples.mass_by_one ≡ Some (Scale 3)
  pub mass_by_last_unit : first_fault_of examples.mass_by_last_unit ≡ Some (Scale 2)
  pub forgetful_of_another_sum : first_fault_of examples.forgetful_of_another_sum ≡ Some (NotConstantSum 4)
  pub forgetful_heavy : first_fault_of examples.forgetful_heavy ≡ Some (Scale 4)
  pub forgetful_two : first_fault_of examples.forgetful_two ≡ Some (NotRecall 4 2)
  pub forgetful_one : first_fault_of examples.forgetful_one ≡ Some (NotRecall 4 2)
  pub absent_by_chance : first_fault_of examples.absent_by_chance ≡ Some (NotRecall 3 1)
  pub first_of_set : first_fault_of examples.first_in_set ≡ Some (NotRecall 7 4)
  pub negative_at_second : first_fault_of examples.negative_at_second ≡ Some (ChanceNegative 1)
  pub negative_below_choice : first_fault_of examples.negative_below_choice ≡ Some (ChanceNegative 2)
  pub sum_above_one : first_fault_of examples.sum_above_one ≡ Some (ChanceSum 1)
  pub product_past_limit : first_fault_of examples.product_past_limit ≡ Some (Scale 2)
  pub first_sum_past_limit : first_fault_of examples.first_sum_past_limit ≡ Some (Scale 1)
  pub later_sum_past_limit : first_fault_of examples.later_sum_past_limit ≡ Some (Scale 3)
  pub unit_of_another_sum : first_fault_of examples.unit_of_another_sum ≡ Some (NotConstantSum 3)
  pub sums_one_and_nothing : first_fault_of examples.sums_one_and_nothing ≡ Some (NotConstantSum 3)
  pub opposite_sums : first_fault_of examples.opposite_sums ≡ Some (NotConstantSum 3)
  pub unit_past_limit_by_sum : first_fault_of examples.unit_past_limit_by_sum ≡ Some (Scale 1)
  pub another_sum_before_whole_sum : first_fault_of examples.another_sum_before_whole_sum ≡ Some (NotConstantSum 3)
  pub whole_sum_past_limit : first_fault_of examples.whole_sum_past_limit ≡ Some (Scale 3)
  pub whole_sum_before_mass : first_fault_of examples.whole_sum_before_mass ≡ Some (Scale 2)

-- no fault, and this sum, this unit, these weights and this mass
pub record GivesNumbers (game : Example) (sum : Fraction) (unit : ℕ) (leaf_weights : List ℤ) (mass : ℕ) : Type 0 where
  pub fault : first_fault_of game ≡ None
  pub sum_is : game_sum game.tables game.tree ≡ sum
  pub unit_is : game_unit game.tables game.tree ≡ unit
  pub weights_are : weights game.tables game.tree ≡ leaf_weights
  pub mass_is : game_mass game.tables game.tree ≡ mass

pub record FaultlessRows : Type 0 where
  pub thirds_of_one : GivesNumbers examples.thirds_of_one zero_fraction 1 (pos 0 ∷ pos 0 ∷ pos 0 ∷ []) 0
  pub biased_coin : GivesNumbers examples.biased_coin zero_fraction 3 (pos 1 ∷ pos 6 ∷ []) 7
  pub mass_at_limit : GivesNumbers examples.mass_at_limit zero_fraction 1 (pos 4611686018427387903 ∷ negsuc 0 ∷ [])
      4611686018427387904
  pub coin_before_choice : GivesNumbers examples.coin_before_choice zero_fraction 1 (pos 0 ∷ pos 0 ∷ pos 0 ∷ pos 0 ∷ [])
      0
  pub other_before_choice : GivesNumbers examples.other_before_choice zero_fraction 1
      (pos 0 ∷ pos 0 ∷ pos 0 ∷ pos 0 ∷ []) 0
  pub unit_at_limit : GivesNumbers examples.unit_at_limit zero_fraction 4611686018427387904 (pos 1 ∷ pos 0 ∷ []) 1
  pub same_sum_at_leaves : GivesNumbers examples.same_sum_at_leaves (whole_number (pos 1)) 1 (pos 1 ∷ pos 2 ∷ []) 3
  pub inner_sum_past_limit : GivesNumbers examples.inner_sum_past_limit (whole_number (pos 4611686018427387904)) 1
      (pos 4611686018427387903 ∷ []) 4611686018427387903
  pub pot_of_seven : GivesNumbers examples.pot_of_seven (whole_number (pos 7)) 1 (pos 3 ∷ []) 3
  pub third_for_two : GivesNumbers examples.third_for_two (over (pos 1) 3) 3 (pos 0 ∷ []) 0
  pub fifth_together : GivesNumbers examples.fifth_together (over (pos 1) 5) 30 (pos 15 ∷ pos 10 ∷ []) 25
  pub thirds_under_halves : GivesNumbers examples.thirds_under_halves (over (pos 1) 3) 3 (pos 0 ∷ pos 3 ∷ []) 3
  pub first_leaf_unreached : GivesNumbers examples.first_leaf_unreached (whole_number (pos 2)) 1 (pos 0 ∷ pos 5 ∷ []) 5
  pub sum_at_limit : GivesNumbers examples.sum_at_limit (whole_number (pos 4611686018427387904)) 1 (pos 0 ∷ []) 0
  pub whole_sum_at_limit : GivesNumbers examples.whole_sum_at_limit (whole_number (negsuc 2305843009213693951)) 2
      (pos 1 ∷ pos 3 ∷ []) 4
  pub halves_within_limit : GivesNumbers examples.halves_within_limit (over (pos 4611686018427387903) 2) 2 (pos 0 ∷ [])
      0
