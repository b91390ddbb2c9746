-- What holds of plans. Each is the contract of a function of this crate.
use Rattle.std.specs.Prelude.{◌≡◌, ℕ, ◌+◌, ◌*◌, ◌≤◌, ◌<◌, ◌↔◌, List, ◌∷◌, length, take, flat_map, replicate}
use Rattle.std.specs.Prelude.{slice_index, slice_index_or, ℤ, pos, ◌*ℤ◌, unsigned_abs, Some, None}
use Rattle.std.specs.List.{AllZip}
use Rattle.def_tree.specs.declared.Player.{Player}
use Rattle.def_tree.specs.declared.Player.TheVariants.{One, Two}
use Rattle.def_sums.specs.Sum.{nat_sum_over}
use Rattle.def_sums.specs.Limits.{most_mass, most_scale, most_root, most_round_row, most_row}
use Rattle.def_plan.specs.Form.{InformationSet, PlacedSet, placed, sequences_of, sequence_count, sequences, AreInOrder}
use Rattle.def_plan.specs.Form.{Leaf}
use Rattle.def_plan.specs.Plan.{IsPlan, cleared, IsPlanOrCleared, dealt, DealsWhole, FollowsRules, AreActions}
use Rattle.def_plan.specs.Plan.{FollowsChoices, pure_plan, added, bad_set, IsBadSet}
use Rattle.def_plan.specs.Payoff.{pay, leaf_sum, gain, worth, mass_of, IsNoBetter, NoActionIsBetter, PlaysOnlyTight}

-- the empty sequence and then those of each set in turn are all sequences, and a set's place tells its first one
pub record SequencesAreNumbered : Type 0 where
  pub in_turn : (sets : List InformationSet) → sequences sets ≡ 0 ∷ flat_map sequences_of (placed sets)
  pub each_set : (sets : List InformationSet) (k : ℕ) (h : PlacedSet) (g : InformationSet) → k < length sets
      → let set = slice_index_or sets k g in
      slice_index_or (placed sets) k h ≡ record {
        first = 1 + nat_sum_over (λ s. s.actions) (take k sets);
        before = set.before;
        actions = set.actions;
      }

-- rules that deal each number whole make a plan of the root that they begin with, which follows them, and alone does
pub record DealingMakesPlans : Type 0 where
  pub is_plan : (sets : List InformationSet) (root : ℕ) (rules : List (ℕ → List ℕ))
      → AreInOrder sets → 1 ≤ root → AllZip DealsWhole sets rules → IsPlan sets root (dealt root sets rules)
  pub follows : (sets : List InformationSet) (root : ℕ) (rules : List (ℕ → List ℕ))
      → AreInOrder sets → AllZip DealsWhole sets rules → FollowsRules sets rules (dealt root sets rules)
  pub only : (sets : List InformationSet) (root : ℕ) (rules : List (ℕ → List ℕ)) (plan : List ℕ)
      → AreInOrder sets → AllZip DealsWhole sets rules → IsPlan sets root plan → FollowsRules sets rules plan
      → plan ≡ dealt root sets rules

-- a choice at each set makes a plan of root 1 that follows it, and makes the only such plan
pub record ChoicesMakeAPlan : Type 0 where
  pub is_plan : (sets : List InformationSet) (choices : List ℕ) → AreInOrder sets → AreActions sets choices
      → IsPlan sets 1 (pure_plan sets choices)
  pub follows : (sets : List InformationSet) (choices : List ℕ) → AreInOrder sets → AreActions sets choices
      → FollowsChoices sets choices (pure_plan sets choices)
  pub only : (sets : List InformationSet) (choices : List ℕ) (plan : List ℕ)
      → AreInOrder sets → AreActions sets choices → IsPlan sets 1 plan → FollowsChoices sets choices plan
      → plan ≡ pure_plan sets choices

-- two plans add up to a plan, and their roots to its root; zeros add nothing
pub record SumsArePlans : Type 0 where
  pub is_plan : (sets : List InformationSet) (root other_root : ℕ) (plan other : List ℕ)
      → IsPlan sets root plan → IsPlan sets other_root other → IsPlan sets (root + other_root) (added plan other)
  pub each_number : (plan other : List ℕ) (s : ℕ) → length plan ≡ length other
      → slice_index (added plan other) s ≡ slice_index plan s + slice_index other s
  pub zeros : (plan : List ℕ) → added (replicate (length plan) 0) plan ≡ plan

-- a cleared plan is no plan, adds nothing, and is what sums begin with:
-- sums of plans and cleared ones are plans or cleared
pub record ClearedPlansAddNothing : Type 0 where
  pub no_plan : (sets : List InformationSet) (root : ℕ) → ¬ (IsPlan sets root (cleared sets))
  pub first : (sets : List InformationSet) (plan : List ℕ) → length plan ≡ sequence_count sets
      → added (cleared sets) plan ≡ plan
  pub second : (sets : List InformationSet) (plan : List ℕ) → length plan ≡ sequence_count sets
      → added plan (cleared sets) ≡ plan
  pub sums : (sets : List InformationSet) (root other_root : ℕ) (plan other : List ℕ)
      → IsPlanOrCleared sets root plan → IsPlanOrCleared sets other_root other
      → IsPlanOrCleared sets (root + other_root) (added plan other)
  pub root : (sets : List InformationSet) (root : ℕ) (plan : List ℕ) → IsPlanOrCleared sets root plan
      → (length plan ≡ sequence_count sets) × (slice_index plan 0 ≡ root)

-- the payoff is the sum over one player's sequences of leaf sum times number, for either player
pub record LeafSumsGiveThePayoff : Type 0 where
  pub for_one : (leaves : List Leaf) (sets : List InformationSet) (plan_one plan_two : List ℕ)
      → length plan_one ≡ sequence_count sets
      → gain (leaf_sum One leaves plan_two) sets plan_one ≡ pay leaves plan_one plan_two
  pub for_two : (leaves : List Leaf) (sets : List InformationSet) (plan_one plan_two : List ℕ)
      → length plan_two ≡ sequence_count sets
      → gain (leaf_sum Two leaves plan_one) sets plan_two ≡ pay leaves plan_one plan_two

-- weak duality: values of which no action is better bound what every plan of every root gains
abbrev pub WeakDuality : Type 0
WeakDuality =
    (player : Player) (sums : ℕ → ℤ) (sets : List InformationSet) (values : List ℤ) (root : ℕ) (plan : List ℕ)
    → NoActionIsBetter player sums sets values → IsPlan sets root plan
    → IsNoBetter player (gain sums sets plan) (pos root *ℤ worth sums (placed sets) values 0)

-- complementary slackness: a plan that plays only where the worth is the set's value gains exactly that
abbrev pub ComplementarySlackness : Type 0
ComplementarySlackness =
    (sums : ℕ → ℤ) (sets : List InformationSet) (values : List ℤ) (root : ℕ) (plan : List ℕ)
    → PlaysOnlyTight sums sets values plan → IsPlan sets root plan
    → gain sums sets plan ≡ pos root *ℤ worth sums (placed sets) values 0

-- the test of a list finds exactly what the words say
pub record BadSetIsExact : Type 0 where
  pub none : (sets : List InformationSet) (root : ℕ) (plan : List ℕ)
      → (bad_set sets root plan ≡ None) ↔ IsPlan sets root plan
  pub some : (sets : List InformationSet) (root : ℕ) (plan : List ℕ) (k : ℕ)
      → (bad_set sets root plan ≡ Some k) ↔ IsBadSet sets root plan k

-- no number of a plan is greater than its root,
-- and the leaf sums against it are at most the mass times the root together
pub record PlansAreSmall : Type 0 where
  pub numbers : (sets : List InformationSet) (root : ℕ) (plan : List ℕ) → AreInOrder sets → IsPlan sets root plan
      → (s : ℕ) → slice_index plan s ≤ root
  pub leaf_sums : (player : Player) (leaves : List Leaf) (sets against_sets : List InformationSet) (root : ℕ)
      (plan : List ℕ)
      → AreInOrder against_sets → IsPlan against_sets root plan
      → nat_sum_over (λ s. unsigned_abs (leaf_sum player leaves plan s)) (sequences sets) ≤ mass_of leaves * root
  pub of_a_round : (leaves : List Leaf) (root : ℕ) → mass_of leaves ≤ most_mass → root ≤ most_scale
      → mass_of leaves * root ≤ most_round_row
  pub of_an_evaluation : (leaves : List Leaf) (root : ℕ) → mass_of leaves ≤ most_mass → root ≤ most_root
      → mass_of leaves * root ≤ most_row
