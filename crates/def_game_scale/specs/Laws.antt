-- What the unit and the weights are.
use Rattle.std.specs.Prelude.{◌≡◌, ◌↔◌, ℕ, ◌+◌, ◌≤◌, true, false, ℤ, pos, ◌*ℤ◌, unsigned_abs, List, [], ◌∷◌, ◌++◌, map}
use Rattle.std.specs.Prelude.{All, Any}
use Rattle.std.specs.List.{AllZip}
use Prim.Native.Nat.{◌∣◌}
use Rattle.def_tree.specs.Tree.{Forest, is_leaf_kind}
use Rattle.def_fraction.specs.Divisors.{lcm}
use Rattle.def_fraction.specs.Fraction.{Fraction, IsInLowestTerms, product_of, whole_number, zero_fraction}
use Rattle.def_game_paths.specs.Paths.{Visit, visits, leaf_visits}
use Rattle.def_game_scale.specs.Tables.{Tables, AreFractions, IsConstantSum, IsZeroSum, game_sum, paid_together}
use Rattle.def_game_scale.specs.Tables.{payoff_one, reach}
use Rattle.def_game_scale.specs.Scale.{all_expected, all_fractions, expected, expected_at, game_mass, game_unit}
use Rattle.def_game_scale.specs.Scale.{mass_so_far, sum_so_far, unit_of, unit_so_far, weight_of, weights, whole_sum}

-- w is m times the fraction
abbrev pub IsMultiple : ℕ → Fraction → ℤ → Type 0
IsMultiple m f w = w *ℤ pos f.den ≡ f.num *ℤ pos m

-- m makes the fraction whole
abbrev pub MakesWhole : ℕ → Fraction → Type 0
MakesWhole m f = (w : ℤ) × IsMultiple m f w

-- the unit is the least common multiple of the denominators: each divides it, and it divides each number that all
-- divide; so the unit times each of the fractions is a whole number, its weight,
-- and no smaller number makes all of them whole
pub record IsLeastUnit (fractions : List Fraction) : Type 0 where
  pub positive : 1 ≤ unit_of fractions
  pub multiple : All (λ f. f.den ∣ unit_of fractions) fractions
  pub least_multiple : (m : ℕ) → All (λ f. f.den ∣ m) fractions → unit_of fractions ∣ m
  pub whole : All (λ f. IsMultiple (unit_of fractions) f (weight_of (unit_of fractions) f)) fractions
  pub divides : (m : ℕ) → All (MakesWhole m) fractions → unit_of fractions ∣ m
  pub least : (m : ℕ) → 1 ≤ m → All (MakesWhole m) fractions → unit_of fractions ≤ m

abbrev pub UnitIsLeast : Type 0
UnitIsLeast = (fractions : List Fraction) → All IsInLowestTerms fractions → IsLeastUnit fractions

-- what the unit makes whole is in lowest terms: the game's sum, and what its leaves are expected to pay
abbrev pub AllAreFractions : Type 0
AllAreFractions = (tables : Tables) (tree : Forest) → AreFractions tables
    → All IsInLowestTerms (all_fractions tables tree)

-- a leaf's weight is unit times reach times player one's payoff
abbrev pub IsWeightOf : Tables → ℕ → Visit → ℤ → Type 0
IsWeightOf tables unit leaf w = whole_number w ≡ product_of (whole_number (pos unit))
    (product_of (reach tables leaf.path) (payoff_one tables leaf))

-- in the game's unit each leaf's weight is whole: there are as many weights as leaves, and each is its leaf's
abbrev pub WeightsAreWhole : Type 0
WeightsAreWhole = (tables : Tables) (tree : Forest) → AreFractions tables
    → AllZip (IsWeightOf tables (game_unit tables tree)) (leaf_visits tree) (weights tables tree)

-- a game's sum is whole in its unit
abbrev pub SumIsWhole : Type 0
SumIsWhole = (tables : Tables) (tree : Forest) → AreFractions tables
    → IsMultiple (game_unit tables tree) (game_sum tables tree) (whole_sum tables tree)

-- what one more node makes of the sum, the unit and the mass of those before it: the first leaf gives the sum, and each
-- leaf's unit takes in the sum's denominator, which later ones have in it, and that of what the leaf is expected to pay
pub record NumbersGrowBy (tables : Tables) (unit : ℕ) (before : List Visit) (node : Visit) : Type 0 where
  pub first_sum : All (λ earlier. is_leaf_kind earlier.node.kind ≡ false) before → is_leaf_kind node.node.kind ≡ true
      → sum_so_far tables (before ++ (node ∷ [])) ≡ paid_together tables node
  pub later_sum : Any (λ earlier. is_leaf_kind earlier.node.kind ≡ true) before
      → sum_so_far tables (before ++ (node ∷ [])) ≡ sum_so_far tables before
  pub leaf_unit : is_leaf_kind node.node.kind ≡ true
      → unit_so_far tables (before ++ (node ∷ []))
      ≡ lcm (expected tables node).den (lcm (sum_so_far tables (before ++ (node ∷ []))).den (unit_so_far tables before))
  pub inner_unit : is_leaf_kind node.node.kind ≡ false
      → unit_so_far tables (before ++ (node ∷ [])) ≡ unit_so_far tables before
  pub leaf_mass : is_leaf_kind node.node.kind ≡ true →
      mass_so_far tables unit (before ++ (node ∷ [])) ≡ mass_so_far tables unit before
      + unsigned_abs (weight_of unit (expected tables node))
  pub inner_mass : is_leaf_kind node.node.kind ≡ false
      → mass_so_far tables unit (before ++ (node ∷ [])) ≡ mass_so_far tables unit before

-- the running sum, unit and mass begin at 0, 1 and 0, grow with each node, and end at those of the game; the sum is
-- whole in the unit at each time
pub record RunningNumbers (tables : Tables) : Type 0 where
  pub start_sum : sum_so_far tables [] ≡ zero_fraction
  pub start_unit : unit_so_far tables [] ≡ 1
  pub start_mass : (unit : ℕ) → mass_so_far tables unit [] ≡ 0
  pub grow : (unit : ℕ) (before : List Visit) (node : Visit) → NumbersGrowBy tables unit before node
  pub divides : (nodes : List Visit) → (sum_so_far tables nodes).den ∣ unit_so_far tables nodes
  pub end_sum : (tree : Forest) → sum_so_far tables (visits tree) ≡ game_sum tables tree
  pub end_unit : (tree : Forest) → unit_so_far tables (visits tree) ≡ game_unit tables tree
  pub end_mass : (tree : Forest) → mass_so_far tables (game_unit tables tree) (visits tree) ≡ game_mass tables tree

-- the game's sum, unit and mass can be computed node after node
abbrev pub NumbersRun : Type 0
NumbersRun = (tables : Tables) → AreFractions tables → RunningNumbers tables

-- a zero-sum game is one of constant sum 0, and then the sum plays no part: the unit, all along, is that of what the
-- leaves are expected to pay, and so are the weights and the mass
pub record IsAsZeroSum (tables : Tables) (tree : Forest) : Type 0 where
  pub constant : IsZeroSum tables tree ↔ (IsConstantSum tables tree × (game_sum tables tree ≡ zero_fraction))
  pub running_unit : (nodes : List Visit) → sum_so_far tables nodes ≡ zero_fraction
      → unit_so_far tables nodes ≡ unit_of (expected_at tables nodes)
  pub unit : game_sum tables tree ≡ zero_fraction → game_unit tables tree ≡ unit_of (all_expected tables tree)
  pub weights_are : game_sum tables tree ≡ zero_fraction
      → weights tables tree ≡ map (weight_of (unit_of (all_expected tables tree))) (all_expected tables tree)
  pub no_sum : game_sum tables tree ≡ zero_fraction → whole_sum tables tree ≡ pos 0

abbrev pub ZeroSumIsSumZero : Type 0
ZeroSumIsSumZero = (tables : Tables) (tree : Forest) → IsAsZeroSum tables tree
