-- Whole numbers in place of a game's payoffs: the unit by which all of them are multiplied, the weights and the mass.
-- The unit makes what both players get together whole too.
use Rattle.std.specs.Prelude.{ℕ, ◌/◌, ℤ, pos, ◌*ℤ◌, unsigned_abs, List, [], ◌∷◌, map, filter, sum}
use Rattle.def_tree.specs.Tree.{Forest, is_leaf_kind}
use Rattle.def_fraction.specs.Divisors.{lcm}
use Rattle.def_fraction.specs.Fraction.{Fraction, product_of}
use Rattle.def_game_paths.specs.Paths.{Visit, leaf_visits}
use Rattle.def_game_scale.specs.Tables.{Tables, first_sum, game_sum, payoff_one, reach}

-- the least common multiple of the denominators
abbrev pub unit_of : List Fraction → ℕ
unit_of [] = 1
unit_of (f ∷ rest) = lcm f.den (unit_of rest)

-- unit times the fraction, where its denominator divides the unit
abbrev pub weight_of : ℕ → Fraction → ℤ
weight_of unit f = f.num *ℤ pos (unit / f.den)

-- reach times player one's payoff
abbrev pub expected : Tables → Visit → Fraction
expected tables leaf = product_of (reach tables leaf.path) (payoff_one tables leaf)

-- what the leaves among some nodes are expected to pay
abbrev pub expected_at : Tables → List Visit → List Fraction
expected_at tables nodes = map (expected tables) (filter (λ visit. is_leaf_kind visit.node.kind) nodes)

-- what the first leaf among some nodes pays both players together
abbrev pub sum_so_far : Tables → List Visit → Fraction
sum_so_far tables nodes = first_sum tables (filter (λ visit. is_leaf_kind visit.node.kind) nodes)

-- the unit of the leaves among some nodes: it makes their sum and what they are expected to pay whole
abbrev pub unit_so_far : Tables → List Visit → ℕ
unit_so_far tables nodes = unit_of (sum_so_far tables nodes ∷ expected_at tables nodes)

-- the sizes of the weights of the leaves among some nodes, in this unit, together
abbrev pub mass_so_far : Tables → ℕ → List Visit → ℕ
mass_so_far tables unit nodes = sum (map unsigned_abs (map (weight_of unit) (expected_at tables nodes)))

abbrev pub all_expected : Tables → Forest → List Fraction
all_expected tables tree = map (expected tables) (leaf_visits tree)

-- what the unit makes whole: the game's sum, and what its leaves are expected to pay
abbrev pub all_fractions : Tables → Forest → List Fraction
all_fractions tables tree = game_sum tables tree ∷ all_expected tables tree

abbrev pub game_unit : Tables → Forest → ℕ
game_unit tables tree = unit_of (all_fractions tables tree)

-- the game's sum in its unit
abbrev pub whole_sum : Tables → Forest → ℤ
whole_sum tables tree = weight_of (game_unit tables tree) (game_sum tables tree)

-- the weights of the leaves, in prefix order
abbrev pub weights : Tables → Forest → List ℤ
weights tables tree = map (weight_of (game_unit tables tree)) (all_expected tables tree)

-- the sum of their sizes
abbrev pub game_mass : Tables → Forest → ℕ
game_mass tables tree = sum (map unsigned_abs (weights tables tree))
