-- What is kept once the first k nodes were weighed.
use Rattle.std.specs.Prelude.{◌≡◌, ℕ, ◌+◌, ◌≤◌, [], map, sum, take, drop, ℤ, unsigned_abs}
use Rattle.def_tree.specs.Tree.{Forest}
use Rattle.def_fraction.specs.Fraction.{Fraction, most}
use Rattle.def_sums.specs.Limits.{most_mass}
use Rattle.def_game_paths.specs.Paths.{visits}
use Rattle.def_game_scale.specs.Tables.{Tables}
use Rattle.def_game_scale.specs.Scale.{expected_at, mass_so_far, weight_of}
use Rattle.def_game_scale.specs.Faults.{found_by, mass_fault, whole_sum_fault}
use Rattle.def_game_numbers.specs.Numbers.{GameWeights}
use Rattle.xg_scale.specs.declared.weights.Weighed.{Weighed}
use Rattle.xg_scale.specs.declared.weights.WeighedLeaf.{WeighedLeaf}

abbrev pub weights_with : Fraction → ℕ → Weighed → GameWeights
weights_with sum unit weighed = record { sum = sum; unit = unit; mass = weighed.mass; leaves = weighed.leaves.items }

-- the unit is from 1 to the limit, and the mass is the sum of the sizes, within its limit
pub record KeepsWeights (weights : GameWeights) : Type 0 where
  pub positive : 1 ≤ weights.unit
  pub limit : weights.unit ≤ most
  pub mass_is : sum (map unsigned_abs weights.leaves) ≡ weights.mass
  pub mass_limit : weights.mass ≤ most_mass

-- a leaf of this weight, and the mass with it
pub record IsLeafWeighed (before : ℕ) (given : ℤ) (leaf : WeighedLeaf) : Type 0 where
  pub weight_is : leaf.weight ≡ given
  pub mass_is : leaf.mass ≡ before + unsigned_abs given

-- the leaves among the first k nodes were weighed in this unit, and have no fault
pub record HasWeighed (tables : Tables) (tree : Forest) (unit k : ℕ) (weighed : Weighed) : Type 0 where
  pub rest : found_by (mass_fault tables unit) [] (visits tree) ≡ found_by (mass_fault tables unit)
      (take k (visits tree)) (drop k (visits tree))
  pub mass_is : weighed.mass ≡ mass_so_far tables unit (take k (visits tree))
  pub limit : weighed.mass ≤ most
  pub leaves_are : weighed.leaves.items ≡ map (weight_of unit) (expected_at tables (take k (visits tree)))

-- a sum of this size, in the unit, has no fault at the first k nodes
abbrev pub PassedWholeSum : Forest → ℕ → ℕ → Type 0
PassedWholeSum tree size k = found_by (whole_sum_fault size) [] (visits tree)
    ≡ found_by (whole_sum_fault size) (take k (visits tree)) (drop k (visits tree))
