-- Small games whose first fault is told apart from a later one by the order of the walks, or that have none.
use Rattle.std.specs.Prelude.{ℕ, pos, negsuc, List, [], ◌∷◌}
use Rattle.def_tree.specs.declared.Kind.TheVariants.{Chance, One, Two}
use Rattle.def_tree.specs.declared.Node.{Node}
use Rattle.def_tree.specs.Tree.{Forest, forest_of}
use Rattle.def_tree.specs.Rules.{leaf_node, node_of_numbers}
use Rattle.def_fraction.specs.Fraction.{Fraction, whole_number, over}
use Rattle.def_game_scale.specs.Tables.{PayoffPair, Tables}

pub record Example : Type 0 where
  pub tables : Tables
  pub tree : Forest

-- by the probabilities of the chance sets, the payoffs of the outcomes and the nodes
abbrev pub example : List (List Fraction) → List PayoffPair → List Node → Example
example chance outcomes nodes = record {
  tables = record { chance = chance; outcomes = outcomes };
  tree = forest_of nodes;
}

abbrev pub pays : Fraction → Fraction → PayoffPair
pays one two = record { one = one; two = two }

-- a set with so many actions, and the outcome of the node
abbrev pub by_chance : ℕ → ℕ → ℕ → Node
by_chance set children outcome = node_of_numbers Chance set outcome children

abbrev pub by_one : ℕ → ℕ → ℕ → Node
by_one set children outcome = node_of_numbers One set outcome children

abbrev pub by_two : ℕ → ℕ → ℕ → Node
by_two set children outcome = node_of_numbers Two set outcome children

-- three leaves below chance
abbrev pub draw_of_three : List Node
draw_of_three = by_chance 1 3 0 ∷ leaf_node 0 ∷ leaf_node 0 ∷ leaf_node 0 ∷ []

-- a negative chance of the second set before a sum of the first
abbrev pub negative_before_sum : Example
negative_before_sum = example
    ((over (pos 1) 2 ∷ over (pos 1) 3 ∷ []) ∷ (over (negsuc 0) 2 ∷ over (pos 3) 2 ∷ []) ∷ [])
    []
    (by_chance 1 2 0 ∷ by_chance 2 2 0 ∷ leaf_node 0 ∷ leaf_node 0 ∷ leaf_node 0 ∷ [])

-- a running sum past the limit before the sum of the same set
abbrev pub running_sum_in_one_set : Example
running_sum_in_one_set = example
    ((over (pos 1) 4611686018427387904 ∷ over (pos 1) 4611686018427387903 ∷ over (pos 1) 2 ∷ []) ∷ [])
    []
    draw_of_three

-- a running sum past the limit in the second set after a wrong sum in the first
abbrev pub sum_before_later_running_sum : Example
sum_before_later_running_sum = example
    ((over (pos 1) 2 ∷ over (pos 1) 3 ∷ []) ∷ (over (pos 1) 4611686018427387904 ∷ over (pos 1) 4611686018427387903 ∷ [])
    ∷ [])
    []
    (by_chance 1 2 0 ∷ by_chance 2 2 0 ∷ leaf_node 0 ∷ leaf_node 0 ∷ leaf_node 0 ∷ [])

-- a wrong sum in the second set after a running sum past the limit in the first
abbrev pub running_sum_before_later_sum : Example
running_sum_before_later_sum = example
    ((over (pos 1) 4611686018427387904 ∷ over (pos 1) 4611686018427387903 ∷ []) ∷ (over (pos 1) 2 ∷ over (pos 1) 3 ∷ [])
    ∷ [])
    []
    (by_chance 1 2 0 ∷ by_chance 2 2 0 ∷ leaf_node 0 ∷ leaf_node 0 ∷ leaf_node 0 ∷ [])

-- a wrong sum of chances before a leaf of another sum of payoffs
abbrev pub sum_before_leaf : Example
sum_before_leaf = example
    ((over (pos 1) 2 ∷ over (pos 1) 3 ∷ []) ∷ [])
    (pays (whole_number (pos 1)) (whole_number (pos 1)) ∷ [])
    (by_chance 1 2 0 ∷ leaf_node 1 ∷ leaf_node 0 ∷ [])

-- a sum of 1 whose running sums pass 1
abbrev pub thirds_of_one : Example
thirds_of_one = example
    ((over (pos 2) 3 ∷ over (pos 1) 3 ∷ whole_number (pos 0) ∷ []) ∷ [])
    []
    draw_of_three

-- a biased coin
abbrev pub biased_coin : Example
biased_coin = example
    ((over (pos 1) 3 ∷ over (pos 2) 3 ∷ []) ∷ [])
    (pays (whole_number (pos 1)) (whole_number (negsuc 0)) ∷ pays (whole_number (pos 3)) (whole_number (negsuc 2)) ∷ [])
    (by_chance 1 2 0 ∷ leaf_node 1 ∷ leaf_node 2 ∷ [])

-- a reach past the limit at an inner node
abbrev pub rare_deals : Example
rare_deals = example
    ((over (pos 1) 1099511627776 ∷ over (pos 1099511627775) 1099511627776 ∷ [])
    ∷ (over (pos 1) 1099511627776 ∷ over (pos 1099511627775) 1099511627776 ∷ []) ∷ [])
    (pays (whole_number (pos 1)) (whole_number (pos 1)) ∷ [])
    (by_chance 1 2 0 ∷ by_chance 2 2 0 ∷ by_one 1 1 0 ∷ leaf_node 1 ∷ leaf_node 0 ∷ leaf_node 0 ∷ [])

-- player one's path payoff past the limit at an inner node
abbrev pub gain_past_limit : Example
gain_past_limit = example
    []
    (pays (whole_number (pos 4611686018427387904)) (whole_number (negsuc 4611686018427387903))
    ∷ pays (whole_number (pos 1)) (whole_number (negsuc 0)) ∷ pays (whole_number (negsuc 0)) (whole_number (pos 1))
    ∷ [])
    (by_one 1 1 1 ∷ by_two 1 1 2 ∷ leaf_node 3 ∷ [])

-- player two's path payoff past the limit at an inner node
abbrev pub loss_past_limit : Example
loss_past_limit = example
    []
    (pays (whole_number (pos 0)) (whole_number (pos 4611686018427387904))
    ∷ pays (whole_number (pos 0)) (whole_number (pos 1)) ∷ pays (whole_number (pos 1)) (whole_number (pos 1)) ∷ [])
    (by_one 1 1 1 ∷ by_two 1 1 2 ∷ leaf_node 3 ∷ [])

-- player one's path payoff before player two's
abbrev pub gain_and_loss_past_limit : Example
gain_and_loss_past_limit = example
    []
    (pays (whole_number (pos 4611686018427387904)) (whole_number (negsuc 4611686018427387903))
    ∷ pays (whole_number (pos 1)) (whole_number (negsuc 0)) ∷ [])
    (by_one 1 1 1 ∷ leaf_node 2 ∷ [])

-- a path payoff past the limit at a leaf of another sum
abbrev pub gain_past_limit_at_leaf : Example
gain_past_limit_at_leaf = example
    []
    (pays (whole_number (pos 4611686018427387904)) (whole_number (negsuc 4611686018427387903))
    ∷ pays (whole_number (pos 1)) (whole_number (pos 0)) ∷ [])
    (by_one 1 2 0 ∷ leaf_node 0 ∷ by_one 2 1 1 ∷ leaf_node 2 ∷ [])

-- another sum before reach times payoff past the limit
abbrev pub fraction_of_another_sum : Example
fraction_of_another_sum = example
    ((over (pos 1) 3 ∷ over (pos 2) 3 ∷ []) ∷ [])
    (pays (over (pos 1) 4611686018427387904) (whole_number (pos 0)) ∷ [])
    (by_chance 1 2 0 ∷ leaf_node 0 ∷ leaf_node 1 ∷ [])

-- reach times payoff past the limit
abbrev pub fraction_past_limit : Example
fraction_past_limit = example
    ((over (pos 1) 3 ∷ over (pos 2) 3 ∷ []) ∷ [])
    (pays (over (pos 1) 4611686018427387904) (over (negsuc 0) 4611686018427387904) ∷ [])
    (by_chance 1 2 0 ∷ leaf_node 1 ∷ leaf_node 0 ∷ [])

-- a running unit past the limit before a later leaf of another sum
abbrev pub unit_past_limit : Example
unit_past_limit = example
    []
    (pays (over (pos 1) 4294967296) (over (negsuc 0) 4294967296)
    ∷ pays (over (pos 1) 4294967295) (over (negsuc 0) 4294967295)
    ∷ pays (whole_number (pos 1)) (whole_number (pos 1)) ∷ [])
    (by_one 1 3 0 ∷ leaf_node 1 ∷ leaf_node 2 ∷ leaf_node 3 ∷ [])

-- a later leaf of another sum before a mass past the limit
abbrev pub heavy_of_another_sum : Example
heavy_of_another_sum = example
    []
    (pays (whole_number (pos 4611686018427387904)) (whole_number (negsuc 4611686018427387903))
    ∷ pays (whole_number (pos 1)) (whole_number (negsuc 0)) ∷ pays (whole_number (pos 1)) (whole_number (pos 1))
    ∷ [])
    (by_one 1 3 0 ∷ leaf_node 1 ∷ leaf_node 2 ∷ leaf_node 3 ∷ [])

-- a mass of exactly the limit
abbrev pub mass_at_limit : Example
mass_at_limit = example
    []
    (pays (whole_number (pos 4611686018427387903)) (whole_number (negsuc 4611686018427387902))
    ∷ pays (whole_number (negsuc 0)) (whole_number (pos 1)) ∷ [])
    (by_one 1 2 0 ∷ leaf_node 1 ∷ leaf_node 2 ∷ [])

-- a mass past the limit by one
abbrev pub mass_by_one : Example
mass_by_one = example
    []
    (pays (whole_number (pos 4611686018427387904)) (whole_number (negsuc 4611686018427387903))
    ∷ pays (whole_number (negsuc 0)) (whole_number (pos 1)) ∷ [])
    (by_one 1 2 0 ∷ leaf_node 1 ∷ leaf_node 2 ∷ [])

-- a mass past the limit at the first leaf, by the unit of the last
abbrev pub mass_by_last_unit : Example
mass_by_last_unit = example
    []
    (pays (whole_number (pos 2305843009213693953)) (whole_number (negsuc 2305843009213693952))
    ∷ pays (whole_number (pos 1)) (whole_number (negsuc 0)) ∷ pays (over (pos 1) 2) (over (negsuc 0) 2) ∷ [])
    (by_one 1 3 0 ∷ leaf_node 1 ∷ leaf_node 2 ∷ leaf_node 3 ∷ [])

-- a leaf of another sum before a lack of recall
abbrev pub forgetful_of_another_sum : Example
forgetful_of_another_sum = example
    []
    (pays (whole_number (pos 1)) (whole_number (pos 1)) ∷ [])
    (by_one 1 2 0 ∷ by_one 1 2 0 ∷ leaf_node 1 ∷ leaf_node 0 ∷ leaf_node 0 ∷ [])

-- a mass past the limit before a lack of recall
abbrev pub forgetful_heavy : Example
forgetful_heavy = example
    []
    (pays (whole_number (pos 4611686018427387904)) (whole_number (negsuc 4611686018427387903))
    ∷ pays (whole_number (pos 1)) (whole_number (negsuc 0)) ∷ [])
    (by_one 1 2 0 ∷ by_one 1 2 0 ∷ leaf_node 1 ∷ leaf_node 2 ∷ leaf_node 0 ∷ [])

-- a lack of recall of player two at a set that follows two actions
abbrev pub forgetful_two : Example
forgetful_two = example
    []
    []
    (by_two 1 2 0 ∷ by_two 2 1 0 ∷ leaf_node 0 ∷ by_two 2 1 0 ∷ leaf_node 0 ∷ [])

-- a lack of recall of player one that follows equally many actions
abbrev pub forgetful_one : Example
forgetful_one = example
    []
    []
    (by_one 1 2 0 ∷ by_one 2 1 0 ∷ leaf_node 0 ∷ by_one 2 1 0 ∷ leaf_node 0 ∷ [])

-- what chance did is no lack of recall
abbrev pub coin_before_choice : Example
coin_before_choice = example
    ((over (pos 1) 2 ∷ over (pos 1) 2 ∷ []) ∷ [])
    []
    (by_chance 1 2 0 ∷ by_one 1 2 0 ∷ leaf_node 0 ∷ leaf_node 0 ∷ by_one 1 2 0 ∷ leaf_node 0 ∷ leaf_node 0 ∷ [])

-- what the other player did is no lack of recall
abbrev pub other_before_choice : Example
other_before_choice = example
    []
    []
    (by_two 1 2 0 ∷ by_one 1 2 0 ∷ leaf_node 0 ∷ leaf_node 0 ∷ by_one 1 2 0 ∷ leaf_node 0 ∷ leaf_node 0 ∷ [])

-- a set met again under its own action, by chance in between
abbrev pub absent_by_chance : Example
absent_by_chance = example
    ((over (pos 1) 2 ∷ over (pos 1) 2 ∷ []) ∷ [])
    []
    (by_one 1 2 0 ∷ by_chance 1 2 0 ∷ by_one 1 2 0 ∷ leaf_node 0 ∷ leaf_node 0 ∷ leaf_node 0 ∷ leaf_node 0 ∷ [])

-- the first node of a set decides, not the nearest
abbrev pub first_in_set : Example
first_in_set = example
    ((whole_number (pos 1) ∷ []) ∷ [])
    []
    (by_one 1 3 0 ∷ by_one 2 1 0 ∷ leaf_node 0 ∷ by_one 3 1 0 ∷ leaf_node 0 ∷ by_chance 1 1 0 ∷ by_one 3 1 0
    ∷ leaf_node 0 ∷ [])

-- a negative chance of the second action
abbrev pub negative_at_second : Example
negative_at_second = example
    ((over (pos 3) 2 ∷ over (negsuc 0) 2 ∷ []) ∷ [])
    []
    (by_chance 1 2 0 ∷ leaf_node 0 ∷ leaf_node 0 ∷ [])

-- a negative chance below a player's set of the same number
abbrev pub negative_below_choice : Example
negative_below_choice = example
    ((over (negsuc 0) 2 ∷ over (pos 3) 2 ∷ []) ∷ [])
    []
    (by_one 1 2 0 ∷ by_chance 1 2 0 ∷ leaf_node 0 ∷ leaf_node 0 ∷ leaf_node 0 ∷ [])

-- reach times payoff past the limit by its numerator, and so without the unit, before a later leaf of another sum
abbrev pub product_past_limit : Example
product_past_limit = example
    ((over (pos 3) 4 ∷ over (pos 1) 4 ∷ []) ∷ [])
    (pays (whole_number (pos 4611686018427387903)) (whole_number (negsuc 4611686018427387902))
    ∷ pays (whole_number (pos 1)) (whole_number (pos 1)) ∷ [])
    (by_chance 1 2 0 ∷ leaf_node 1 ∷ leaf_node 2 ∷ [])

-- a unit of exactly the limit
abbrev pub unit_at_limit : Example
unit_at_limit = example
    []
    (pays (over (pos 1) 4611686018427387904) (over (negsuc 0) 4611686018427387904) ∷ [])
    (by_one 1 2 0 ∷ leaf_node 1 ∷ leaf_node 0 ∷ [])

-- payoffs that add up to the same number at the leaves, and not before them
abbrev pub same_sum_at_leaves : Example
same_sum_at_leaves = example
    []
    (pays (whole_number (pos 1)) (whole_number (pos 1)) ∷ pays (whole_number (pos 0)) (whole_number (negsuc 0))
    ∷ pays (whole_number (pos 1)) (whole_number (negsuc 1)) ∷ [])
    (by_one 1 2 1 ∷ leaf_node 2 ∷ leaf_node 3 ∷ [])

-- probabilities that add up to more than 1
abbrev pub sum_above_one : Example
sum_above_one = example
    ((over (pos 2) 3 ∷ over (pos 2) 3 ∷ []) ∷ [])
    []
    (by_chance 1 2 0 ∷ leaf_node 0 ∷ leaf_node 0 ∷ [])

-- the first leaf's sum past the limit
abbrev pub first_sum_past_limit : Example
first_sum_past_limit = example
    []
    (pays (whole_number (pos 4611686018427387904)) (whole_number (pos 1)) ∷ [])
    (leaf_node 1 ∷ [])

-- a later leaf's sum past the limit, and another one
abbrev pub later_sum_past_limit : Example
later_sum_past_limit = example
    []
    (pays (whole_number (pos 4611686018427387904)) (whole_number (pos 1)) ∷ [])
    (by_one 1 2 0 ∷ leaf_node 0 ∷ leaf_node 1 ∷ [])

-- the sum of an inner node's payoffs past the limit, and not the leaf's
abbrev pub inner_sum_past_limit : Example
inner_sum_past_limit = example
    []
    (pays (whole_number (pos 4611686018427387904)) (whole_number (pos 1))
    ∷ pays (whole_number (negsuc 0)) (whole_number (pos 0)) ∷ [])
    (by_one 1 1 1 ∷ leaf_node 2 ∷ [])

-- another sum before a running unit past the limit
abbrev pub unit_of_another_sum : Example
unit_of_another_sum = example
    []
    (pays (over (pos 1) 4294967296) (over (negsuc 0) 4294967296) ∷ pays (over (pos 1) 4294967295) (whole_number (pos 0))
    ∷ [])
    (by_one 1 2 0 ∷ leaf_node 1 ∷ leaf_node 2 ∷ [])

-- the sums 1, 0 and 0: the first leaf decides
abbrev pub sums_one_and_nothing : Example
sums_one_and_nothing = example
    []
    (pays (whole_number (pos 1)) (whole_number (pos 0)) ∷ pays (whole_number (pos 1)) (whole_number (negsuc 0)) ∷ [])
    (by_one 1 3 0 ∷ leaf_node 1 ∷ leaf_node 2 ∷ leaf_node 2 ∷ [])

-- the sums 1 and -1
abbrev pub opposite_sums : Example
opposite_sums = example
    []
    (pays (whole_number (pos 1)) (whole_number (pos 0)) ∷ pays (whole_number (negsuc 0)) (whole_number (pos 0)) ∷ [])
    (by_one 1 2 0 ∷ leaf_node 1 ∷ leaf_node 2 ∷ [])

-- a unit past the limit by the sum's denominator
abbrev pub unit_past_limit_by_sum : Example
unit_past_limit_by_sum = example
    []
    (pays (over (pos 1) 4294967296) (over (pos 1) 4294967295) ∷ [])
    (leaf_node 1 ∷ [])

-- another sum before the first one, in the unit of all leaves, past the limit
abbrev pub another_sum_before_whole_sum : Example
another_sum_before_whole_sum = example
    ((over (pos 1) 2 ∷ over (pos 1) 2 ∷ []) ∷ [])
    (pays (whole_number (pos 1)) (whole_number (pos 4611686018427387903)) ∷ [])
    (by_chance 1 2 0 ∷ leaf_node 1 ∷ leaf_node 0 ∷ [])

-- a negative sum, in the unit of all leaves, past the limit
abbrev pub whole_sum_past_limit : Example
whole_sum_past_limit = example
    ((over (pos 1) 2 ∷ over (pos 1) 2 ∷ []) ∷ [])
    (pays (whole_number (pos 1)) (over (negsuc 4611686018427387900) 3) ∷ [])
    (by_one 1 1 0 ∷ by_chance 1 2 0 ∷ leaf_node 1 ∷ leaf_node 1 ∷ [])

-- the sum in the unit past the limit before the mass of a later leaf
abbrev pub whole_sum_before_mass : Example
whole_sum_before_mass = example
    ((over (pos 1) 2 ∷ over (pos 1) 2 ∷ []) ∷ [])
    (pays (whole_number (pos 1)) (whole_number (pos 4611686018427387903))
    ∷ pays (whole_number (pos 4611686018427387904)) (whole_number (pos 0)) ∷ [])
    (by_chance 1 2 0 ∷ leaf_node 1 ∷ leaf_node 2 ∷ [])

-- a pot of 7
abbrev pub pot_of_seven : Example
pot_of_seven = example
    []
    (pays (whole_number (pos 3)) (whole_number (pos 4)) ∷ [])
    (leaf_node 1 ∷ [])

-- a sum whose denominator no weight has
abbrev pub third_for_two : Example
third_for_two = example
    []
    (pays (whole_number (pos 0)) (over (pos 1) 3) ∷ [])
    (leaf_node 1 ∷ [])

-- a sum whose denominator is that of no payoff of player one
abbrev pub fifth_together : Example
fifth_together = example
    []
    (pays (over (pos 1) 2) (over (negsuc 2) 10) ∷ pays (over (pos 1) 3) (over (negsuc 1) 15) ∷ [])
    (by_one 1 2 0 ∷ leaf_node 1 ∷ leaf_node 2 ∷ [])

-- a sum of thirds under chances of halves, which the sum takes no part in
abbrev pub thirds_under_halves : Example
thirds_under_halves = example
    ((over (pos 1) 2 ∷ over (pos 1) 2 ∷ []) ∷ [])
    (pays (whole_number (pos 0)) (over (pos 1) 3) ∷ pays (whole_number (pos 2)) (over (negsuc 4) 3) ∷ [])
    (by_chance 1 2 0 ∷ leaf_node 1 ∷ leaf_node 2 ∷ [])

-- the first leaf decides, though it is never reached
abbrev pub first_leaf_unreached : Example
first_leaf_unreached = example
    ((whole_number (pos 0) ∷ whole_number (pos 1) ∷ []) ∷ [])
    (pays (whole_number (pos 1)) (whole_number (pos 1)) ∷ pays (whole_number (pos 5)) (whole_number (negsuc 2)) ∷ [])
    (by_chance 1 2 0 ∷ leaf_node 1 ∷ leaf_node 2 ∷ [])

-- a sum of exactly the limit
abbrev pub sum_at_limit : Example
sum_at_limit = example
    []
    (pays (whole_number (pos 0)) (whole_number (pos 4611686018427387904)) ∷ [])
    (leaf_node 1 ∷ [])

-- a negative sum in the unit of exactly the limit
abbrev pub whole_sum_at_limit : Example
whole_sum_at_limit = example
    ((over (pos 1) 2 ∷ over (pos 1) 2 ∷ []) ∷ [])
    (pays (whole_number (pos 1)) (whole_number (negsuc 2305843009213693952))
    ∷ pays (whole_number (pos 3)) (whole_number (negsuc 2305843009213693954)) ∷ [])
    (by_chance 1 2 0 ∷ leaf_node 1 ∷ leaf_node 2 ∷ [])

-- a sum of halves within the limit in its unit, its numerator times the unit past it
abbrev pub halves_within_limit : Example
halves_within_limit = example
    []
    (pays (whole_number (pos 0)) (over (pos 4611686018427387903) 2) ∷ [])
    (leaf_node 1 ∷ [])
