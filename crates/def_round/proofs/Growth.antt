-- How regrets grow over the rounds.
use Rattle.std.proofs.Common.{◌≡◌, ℕ, zero, suc, ◌+◌, ◌*◌, ◌^◌, ◌≤◌, List, [], ◌∷◌, zip, length, get_or, All, arith, sym, refl, subst, ⊎_elim}
use Rattle.std.specs.Prelude.{ℤ, pos, negsuc, ◌+ℤ◌, ◌-ℤ◌, unsigned_abs}
use Rattle.std.specs.List.{AllZip, flat_map}
use Rattle.std.proofs.lemmas.Int.{ints}
use Rattle.std.proofs.lemmas.Bool.{cases_lt}
use Rattle.std.proofs.lemmas.List.{get_or_past}
use Rattle.std.proofs.lemmas.List.Elements.{All-nil, All-cons, All-append, All-map, All-replicate}
use Rattle.std.proofs.Math.Nat.{mul-le-mul}
use Rattle.def_sums.proofs.SumLaws.{nat_sum_over-same, nat_sum_over-bounded}
use Rattle.std.proofs.lemmas.List.FromFn.{length-range_with_len}
use Rattle.def_tree.specs.declared.Player.{Player}
use Rattle.def_tree.specs.declared.Player.TheVariants.{One, Two}
use Rattle.def_plan.specs.Form.{InformationSet, PlacedSet, placed, sequences_of, sequences, sequence_count, AreInOrder, SequenceForm}
use Rattle.def_plan.specs.Payoff.{leaf_sum, worth, mass_of}
use Rattle.def_plan.proofs.SizeLaws.{leaf_sums-below, of_a_round}
use Rattle.def_plan.proofs.Duality.{AllZip-weaker}
use Rattle.def_round.specs.Play.{positive_part, regret_of, play_of, plan_of_play, GivesAllUnits}
use Rattle.def_round.specs.Round.{utility, own_sum, round_values, set_regrets, regrets_after}
use Rattle.def_round.specs.Rounds.{Standing, rounds}
use Rattle.def_round.proofs.Plays.{plays_all_units, plays_deal_plans}
use Rattle.def_round.specs.Sizes.{size_of_sums, IsWithin, IsWithinRunLimits}
use Rattle.def_round.specs.SizeLaws.{OwnSumsAreSmall, RegretsGrowSlowly, RoundsAreSmall, PlayProductsAreSmall, RegretsAreSmall, RegretsGrowByTheSums}
use Rattle.def_round.specs.SizeLaws.{RegretsStaySmall, DealsWithin, DealtProductsAreSmall}
use Rattle.def_round.proofs.Trees.{values_within}

pub utility_size : (player : Player) (payoff : ℤ) → unsigned_abs (utility player payoff) ≡ unsigned_abs payoff
utility_size One payoff = refl
utility_size Two payoff = omega (arith, ints)

-- the sizes of a player's leaf sums against a plan are together at most the mass times the root
pub own_sums_small : OwnSumsAreSmall
own_sums_small player leaves sets against_sets root plan order is =
    let same = nat_sum_over-same (λ s. unsigned_abs (own_sum player leaves plan s)) (λ s. unsigned_abs (leaf_sum player leaves plan s)) (sequences sets)
    (λ k d low. utility_size player (leaf_sum player leaves plan _)) in
    omega (arith, same, leaf_sums-below player leaves sets against_sets root plan order is)

-- ---- one round
All-blocks : {A B C : Type 0} (P : C → Type 0) (f : A → B → List C) (xs : List A) (ys : List B)
    → AllZip (λ x y. All P (f x y)) xs ys → All P (flat_map (λ p. f p.0 p.1) (zip xs ys))
All-blocks P f [] ys all = All-nil P
All-blocks P f (x ∷ xs) [] all = elim all [ ]
All-blocks P f (x ∷ xs) (y ∷ ys) all = All-append P (f x y) (flat_map (λ p. f p.0 p.1) (zip xs ys)) all.0 (All-blocks P f xs ys all.1)

at_each : (bound : ℕ) (regrets : List ℤ) → All (λ r. unsigned_abs r ≤ bound) regrets → (s : ℕ)
    → unsigned_abs (regret_of regrets s) ≤ bound
at_each bound regrets all s =
    ⊎_elim (λ low. all s (pos 0) low) (λ past. subst (λ r. unsigned_abs r ≤ bound) (sym (get_or_past regrets s (pos 0) past)) (omega arith))
    (cases_lt s (length regrets))

one_round : (sums : ℕ → ℤ) (play : List ℕ) (sets : List InformationSet) (before : List ℤ) (so_far bound : ℕ)
    → AreInOrder sets → GivesAllUnits play sets
    → size_of_sums sums sets ≤ bound → ((s : ℕ) → unsigned_abs (regret_of before s) ≤ so_far)
    → All (λ r. unsigned_abs r ≤ so_far + bound) (regrets_after sums play sets before)
one_round sums play sets before so_far bound order whole le small =
    All-cons (λ r. unsigned_abs r ≤ so_far + bound) (pos 0) (flat_map (λ p. set_regrets sums (placed sets) (round_values sums play sets) before p.0 p.1)
    (zip (placed sets) (round_values sums play sets))) (omega arith)
    (All-blocks (λ r. unsigned_abs r ≤ so_far + bound) (λ h v. set_regrets sums (placed sets) (round_values sums play sets) before h v) (placed sets)
    (round_values sums play sets)
    (AllZip-weaker (IsWithin (size_of_sums sums sets) sums play sets (round_values sums play sets))
    (λ h v. All (λ r. unsigned_abs r ≤ so_far + bound) (set_regrets sums (placed sets) (round_values sums play sets) before h v))
    (λ h v is. All-map (λ r. unsigned_abs r ≤ so_far + bound) (λ s. regret_of before s +ℤ (worth sums (placed sets) (round_values sums play sets) s -ℤ v))
    (sequences_of h)
    (λ k d low. grows (regret_of before (get_or (sequences_of h) k d)) (worth sums (placed sets) (round_values sums play sets) (get_or (sequences_of h) k d)
    -ℤ v) (small (get_or (sequences_of h) k d)) (is.each_growth k d low)))
    (placed sets) (round_values sums play sets) (values_within sums play sets order whole)))
  where
    grows : (r g : ℤ) → unsigned_abs r ≤ so_far → unsigned_abs g ≤ size_of_sums sums sets
        → unsigned_abs (r +ℤ g) ≤ so_far + bound
    grows r g h k = omega (arith, ints, le)

-- a round changes a regret by at most the sizes of the leaf sums together
pub regrets_grow_by_the_sums : RegretsGrowByTheSums
regrets_grow_by_the_sums sums play sets before so_far bound order whole le small =
    at_each (so_far + bound) (regrets_after sums play sets before) (one_round sums play sets before so_far bound order whole le small)

-- with leaf sums within 2 ^ 82 the regrets stay within that times the rounds, and within 2 ^ 98
pub regrets_stay_small : RegretsStaySmall
regrets_stay_small sums play sets before rounds_so_far order whole le few small =
    let grow = regrets_grow_by_the_sums sums play sets before (rounds_so_far * 2 ^ 82) (2 ^ 82) order whole le small in
    record { by_rounds = λ s. let g = grow s in omega (arith, g); at_most = λ s. let g = grow s in omega (arith, g, few) }

-- ---- all rounds
record AllWithin (bound : ℕ) (standing : Standing) : Type 0 where
  of_one : All (λ r. unsigned_abs r ≤ bound) standing.regrets_one
  of_two : All (λ r. unsigned_abs r ≤ bound) standing.regrets_two

rounds_within : (form : SequenceForm) (root n : ℕ) → AreInOrder form.sets_one → AreInOrder form.sets_two → 1 ≤ root
    → AllWithin (n * (mass_of form.leaves * root)) (rounds form root n)
rounds_within form root zero order_one order_two some = record {
  of_one = All-replicate (λ r. unsigned_abs r ≤ 0 * (mass_of form.leaves * root)) (sequence_count form.sets_one) (pos 0) (omega arith);
  of_two = All-replicate (λ r. unsigned_abs r ≤ 0 * (mass_of form.leaves * root)) (sequence_count form.sets_two) (pos 0) (omega arith);
}
rounds_within form root (suc n) order_one order_two some =
    let before : Standing = rounds form root n in
    let so_far : AllWithin (n * (mass_of form.leaves * root)) before = rounds_within form root n order_one order_two some in
    let bound : ℕ = mass_of form.leaves * root in
    let play_one : List ℕ = play_of form.sets_one before.regrets_one in
    let play_two : List ℕ = play_of form.sets_two before.regrets_two in
    let plan_one : List ℕ = plan_of_play form.sets_one play_one root in
    let plan_two : List ℕ = plan_of_play form.sets_two play_two root in
    let more : n * bound + bound ≡ suc n * bound = omega arith in
    record {
      of_one = subst (λ b. All (λ r. unsigned_abs r ≤ b) (regrets_after (own_sum One form.leaves plan_two) play_one form.sets_one before.regrets_one)) more
          (one_round (own_sum One form.leaves plan_two) play_one form.sets_one before.regrets_one (n * bound) bound order_one
          (plays_all_units form.sets_one before.regrets_one order_one)
          (own_sums_small One form.leaves form.sets_one form.sets_two root plan_two order_two (plays_deal_plans form.sets_two play_two root order_two some))
          (at_each (n * bound) before.regrets_one so_far.of_one));
      of_two = subst (λ b. All (λ r. unsigned_abs r ≤ b) (regrets_after (own_sum Two form.leaves plan_one) play_two form.sets_two before.regrets_two)) more
          (one_round (own_sum Two form.leaves plan_one) play_two form.sets_two before.regrets_two (n * bound) bound order_two
          (plays_all_units form.sets_two before.regrets_two order_two)
          (own_sums_small Two form.leaves form.sets_two form.sets_one root plan_one order_one (plays_deal_plans form.sets_one play_one root order_one some))
          (at_each (n * bound) before.regrets_two so_far.of_two));
    }

-- after n rounds a regret is at most n times the mass times the root
pub regrets_grow_slowly : RegretsGrowSlowly
regrets_grow_slowly form root n order_one order_two some =
    let within = rounds_within form root n order_one order_two some in
    record {
      of_one = at_each (n * (mass_of form.leaves * root)) (rounds form root n).regrets_one within.of_one;
      of_two = at_each (n * (mass_of form.leaves * root)) (rounds form root n).regrets_two within.of_two;
    }

-- ---- with the limits
-- within the limits of a run, the mass times the root is at most 2 ^ 82
pub rounds_small : RoundsAreSmall
rounds_small form root n limits = of_a_round form.leaves root limits.small_mass limits.small_root

-- within the limits of a run, all units times the mass times the root are at most 2 ^ 98
pub products_small : PlayProductsAreSmall
products_small form root n limits = omega (arith, rounds_small form root n limits)

regret_bound : (form : SequenceForm) (root n : ℕ) → IsWithinRunLimits form root n
    → n * (mass_of form.leaves * root) ≤ 2 ^ 98
regret_bound form root n limits = mul-le-mul limits.few_rounds (rounds_small form root n limits)

-- within the limits of a run, no regret of either player is larger than 2 ^ 98
pub regrets_small : RegretsAreSmall
regrets_small form root n order_one order_two some limits =
    let slow = regrets_grow_slowly form root n order_one order_two some in
    let bound = regret_bound form root n limits in
    record { of_one = λ s. let e = slow.of_one s in omega (arith, e, bound); of_two = λ s. let e = slow.of_two s in omega (arith, e, bound) }

part_size : (r : ℤ) → positive_part r ≤ unsigned_abs r
part_size (pos n) = omega arith
part_size (negsuc n) = omega arith

-- all units times a set's positive regrets, where none is above 2 ^ 98
pub deals_within : (sets : List InformationSet) (regrets : List ℤ)
    → ((s : ℕ) → unsigned_abs (regret_of regrets s) ≤ 2 ^ 98) → DealsWithin sets regrets
deals_within sets regrets small = record {
  each_set = λ k d below few.
      let h : PlacedSet = get_or (placed sets) k d in
      let sum = nat_sum_over-bounded (λ s. positive_part (regret_of regrets s)) (2 ^ 98) (sequences_of h)
      (λ i e low. let s : ℕ = get_or (sequences_of h) i e in let p = part_size (regret_of regrets s) in let q = small s in omega (arith, p, q)) in
      let long = length-range_with_len h.first h.actions in
      omega (arith, sum, long, few);
}

-- at a set of at most 1,024 actions, all units times the sum of its positive regrets are below 2 ^ 126
pub dealt_products_small : DealtProductsAreSmall
dealt_products_small form root n order_one order_two some limits =
    let small = regrets_small form root n order_one order_two some limits in
    record {
      of_one = deals_within form.sets_one (rounds form root n).regrets_one small.of_one;
      of_two = deals_within form.sets_two (rounds form root n).regrets_two small.of_two;
    }
