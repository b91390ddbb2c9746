-- The walks over the chance sets.
use Rattle.std.specs.Prelude.{◌≡◌, ℕ, ◌≤◌, not, List, [], map, take, drop, Option, None}
use Rattle.std.specs.List.{list_any}
use Rattle.def_fraction.specs.Fraction.{Fraction, zero_fraction}
use Rattle.def_tree.specs.declared.Kind.TheVariants.{Chance}
use Rattle.def_tree.specs.Tree.{Forest}
use Rattle.def_tree.specs.Rules.{set_count}
use Rattle.def_game_paths.specs.Paths.{Visit, visits}
use Rattle.def_game_scale.specs.Tables.{Tables, probabilities}
use Rattle.def_game_scale.specs.Faults.{GameFault, ChanceNegative, NodeTest, adding_fault, found_by, is_negative}
use Rattle.def_game_scale.specs.Faults.{passing, sign_fault, sum_fault}
use Rattle.xg_scale.specs.declared.chance.SetTest.{SetTest}
use Rattle.xg_scale.specs.declared.chance.SetTest.TheVariants.{Signs, Sums}

-- what a walk looks for at each node
abbrev pub node_test_of : SetTest → Tables → NodeTest
node_test_of Signs = sign_fault
node_test_of Sums = sum_fault

-- what it finds in a set, whose first node has this number, by the set's probabilities
abbrev pub set_fault : SetTest → ℕ → List Fraction → Option GameFault
set_fault Signs number fractions = passing (not (list_any is_negative fractions)) (ChanceNegative number) None
set_fault Sums number fractions = adding_fault number zero_fraction fractions

-- nothing is found at the first k nodes, which are in so many chance sets
pub record PassedSets (test : SetTest) (tables : Tables) (tree : Forest) (k seen : ℕ) : Type 0 where
  pub rest : found_by (node_test_of test tables) [] (visits tree) ≡ found_by (node_test_of test tables)
      (take k (visits tree))
      (drop k (visits tree))
  pub seen_is : seen ≡ set_count Chance (map (λ (v : Visit). v.node) (take k (visits tree)))
  pub sets : (set : ℕ) → 1 ≤ set → set ≤ seen → set_fault test 0 (probabilities tables set) ≡ None
