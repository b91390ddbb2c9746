-- The rows against a plan: how many there are, and how large they are together.
use Rattle.std.proofs.Common.{◌≡◌, ℕ, All, ◌+◌, ◌*◌, ◌^◌, ◌≤◌, List, [], ◌∷◌, length, map, ℤ, unsigned_abs, refl, ap, ◌∙◌, subst, sym, arith}
use Rattle.std.proofs.lemmas.List.{get_or_default}
use Rattle.std.proofs.lemmas.List.FromFn.{length-map-range_with_len}
use Rattle.def_tree.specs.declared.Player.{Player}
use Rattle.def_sums.specs.Limits.{most_mass, most_root, most_scale}
use Rattle.def_sums.specs.Sum.{nat_sum_over}
use Rattle.def_plan.specs.Form.{AreInOrder, InformationSet, SequenceForm, player_sets, sequence_count, sequences}
use Rattle.def_plan.specs.Payoff.{leaf_sum, mass_of}
use Rattle.def_plan.specs.Plan.{IsPlan}
use Rattle.def_plan.proofs.SizeLaws.{leaf_sums-below, of_a_round, of_an_evaluation, plan-below_root}
use Rattle.def_plan.specs.FormRows.{player_rows}

sizes_of_map : (f : ℕ → ℤ) (xs : List ℕ)
    → nat_sum_over unsigned_abs (map f xs) ≡ nat_sum_over (λ s. unsigned_abs (f s)) xs
sizes_of_map f [] = refl
sizes_of_map f (x ∷ xs) = ap (λ n. unsigned_abs (f x) + n) (sizes_of_map f xs)

module _ (form : SequenceForm) (player : Player) (plan : List ℕ) (rows : List ℤ)
    (are : rows ≡ player_rows form player plan) where
  -- a row for each of the player's sequences
  pub count_of_rows : length rows ≡ sequence_count (player_sets form player)
  count_of_rows =
      ap length are
      ∙ length-map-range_with_len (leaf_sum player form.leaves plan) 0 (sequence_count (player_sets form player))

  module _ (against : List InformationSet) (root : ℕ) (order : AreInOrder against) (is : IsPlan against root plan) where
    sizes : nat_sum_over unsigned_abs rows ≤ mass_of form.leaves * root
    sizes =
        let sets : List InformationSet = player_sets form player in
        let sums : ℕ → ℤ = leaf_sum player form.leaves plan in
        let same : nat_sum_over unsigned_abs rows ≡ nat_sum_over (λ s. unsigned_abs (sums s)) (sequences sets) =
        ap (nat_sum_over unsigned_abs) are ∙ sizes_of_map sums (sequences sets) in
        subst (λ n. n ≤ mass_of form.leaves * root) (sym same)
        (leaf_sums-below player form.leaves sets against root plan order is)

    -- against a plan of a round
    pub small_in_round : mass_of form.leaves ≤ most_mass → root ≤ most_scale → nat_sum_over unsigned_abs rows ≤ 2 ^ 82
    small_in_round mass few =
        omega (arith, sizes, of_a_round form.leaves root mass few)

    -- against a sum of plans
    pub small_in_evaluation : mass_of form.leaves ≤ most_mass → root ≤ most_root
        → nat_sum_over unsigned_abs rows ≤ 2 ^ 98
    small_in_evaluation mass few =
        omega (arith, sizes, of_an_evaluation form.leaves root mass few)

-- no number of a plan whose root is within a limit is above it
pub small_numbers : (sets : List InformationSet) (root : ℕ) (plan : List ℕ) → AreInOrder sets → IsPlan sets root plan
    → root ≤ most_root → All (λ n. n ≤ most_root) plan
small_numbers sets root plan order is few =
    λ k d low. omega (arith, plan-below_root sets root plan order is k, get_or_default plan k d 0 low)
