-- How large cut regrets are over the rounds.
use Rattle.std.proofs.Common.{◌≡◌, ℕ, zero, suc, ◌+◌, ◌*◌, ◌≤◌, List, replicate, arith, ap, refl, subst}
use Rattle.std.specs.Prelude.{ℤ, pos, unsigned_abs}
use Rattle.std.proofs.Math.Nat.{mul-le-mul_left}
use Rattle.std.proofs.lemmas.Int.{ints}
use Rattle.def_tree.specs.declared.Player.{Player}
use Rattle.def_tree.specs.declared.Player.TheVariants.{One, Two}
use Rattle.def_sums.specs.Limits.{most_round_row}
use Rattle.def_plan.specs.Form.{InformationSet, sequence_count, AreInOrder, SequenceForm, Leaf}
use Rattle.def_plan.specs.Payoff.{mass_of}
use Rattle.def_plan.proofs.SizeLaws.{of_a_round}
use Rattle.def_round.specs.Play.{regret_of, play_of, plan_of_play}
use Rattle.def_round.specs.Round.{own_sum, regrets_after}
use Rattle.def_round.specs.Rounds.{Standing, next_round}
use Rattle.def_round.specs.Sizes.{RegretsAreWithin}
use Rattle.def_round.proofs.Plays.{plays_all_units}
use Rattle.def_round.proofs.Growth.{own_sums_small, regrets_grow_by_the_sums}
use Rattle.def_plus.specs.Cut.{cut}
use Rattle.def_plus.specs.PlusRounds.{plus_rounds}
use Rattle.def_plus.specs.RoundLaws.{PlusRegretsAreNotNegative, PlusRegretsAreSmall}
use Rattle.def_plus.proofs.Cuts.{not_negative-cut, size-cut}
use Rattle.def_plus.proofs.PlusSums.{next_plan-is}

pub none_yet : (n s : ℕ) → regret_of (replicate n (pos 0)) s ≡ pos 0
none_yet zero zero = refl
none_yet zero (suc s) = refl
none_yet (suc n) zero = refl
none_yet (suc n) (suc s) = none_yet n s

-- after each round no regret is below 0
pub plus_regrets_are_not_negative : PlusRegretsAreNotNegative
plus_regrets_are_not_negative form root zero = record {
  of_one = λ s. omega (arith, ints, none_yet (sequence_count form.sets_one) s);
  of_two = λ s. omega (arith, ints, none_yet (sequence_count form.sets_two) s);
}
plus_regrets_are_not_negative form root (suc n) =
    let played : Standing = next_round form root (plus_rounds form root n) in
    record { of_one = λ s. not_negative-cut played.regrets_one s; of_two = λ s. not_negative-cut played.regrets_two s }

-- one more round, whose plan of the other player has this root
one_round : (player : Player) (leaves : List Leaf) (sets against_sets : List InformationSet) (regrets against_regrets : List ℤ) (root so_far : ℕ)
    → AreInOrder sets → AreInOrder against_sets → 1 ≤ root → ((s : ℕ) → unsigned_abs (regret_of regrets s) ≤ so_far)
    → (s : ℕ) → unsigned_abs (regret_of (cut (regrets_after (own_sum player leaves (plan_of_play against_sets (play_of against_sets against_regrets) root))
    (play_of sets regrets) sets regrets)) s) ≤ so_far + mass_of leaves * root
one_round player leaves sets against_sets regrets against_regrets root so_far order against_order some small s =
    let plan : List ℕ = plan_of_play against_sets (play_of against_sets against_regrets) root in
    let after : List ℤ = regrets_after (own_sum player leaves plan) (play_of sets regrets) sets regrets in
    omega (
      arith,
      size-cut after s,
      regrets_grow_by_the_sums (own_sum player leaves plan) (play_of sets regrets) sets regrets so_far (mass_of leaves * root) order
          (plays_all_units sets regrets order)
          (own_sums_small player leaves sets against_sets root plan against_order (next_plan-is against_sets against_regrets root against_order some)) small s,
    )

within : (form : SequenceForm) (root n : ℕ) → AreInOrder form.sets_one → AreInOrder form.sets_two → 1 ≤ root
    → RegretsAreWithin (n * (mass_of form.leaves * root)) (plus_rounds form root n)
within form root zero order_one order_two some = record {
  of_one = λ s. omega (arith, ap unsigned_abs (none_yet (sequence_count form.sets_one) s));
  of_two = λ s. omega (arith, ap unsigned_abs (none_yet (sequence_count form.sets_two) s));
}
within form root (suc n) order_one order_two some =
    let so_far = within form root n order_one order_two some in
    let bound : ℕ = mass_of form.leaves * root in
    let more : n * bound + bound ≡ suc n * bound = omega arith in
    record {
      of_one = λ s. subst (λ b. unsigned_abs (regret_of (plus_rounds form root (suc n)).regrets_one s) ≤ b) more
          (one_round One form.leaves form.sets_one form.sets_two (plus_rounds form root n).regrets_one (plus_rounds form root n).regrets_two root (n * bound)
          order_one order_two some so_far.of_one s);
      of_two = λ s. subst (λ b. unsigned_abs (regret_of (plus_rounds form root (suc n)).regrets_two s) ≤ b) more
          (one_round Two form.leaves form.sets_two form.sets_one (plus_rounds form root n).regrets_two (plus_rounds form root n).regrets_one root (n * bound)
          order_two order_one some so_far.of_two s);
    }

-- cut regrets grow no faster than others
pub plus_regrets_are_small : PlusRegretsAreSmall
plus_regrets_are_small = record {
  by_rounds = within;
  within_limits = λ form root n order_one order_two some limits.
      let slow = within form root n order_one order_two some in
      let most : n * (mass_of form.leaves * root) ≤ n * most_round_row = mul-le-mul_left n
      (of_a_round form.leaves root limits.small_mass (omega (arith, limits.small_root))) in
      record { of_one = λ s. omega (arith, slow.of_one s, most); of_two = λ s. omega (arith, slow.of_two s, most) };
}
