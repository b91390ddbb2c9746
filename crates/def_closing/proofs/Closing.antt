-- How far apart the bounds of both sums of plans are after some rounds.
use Rattle.std.proofs.Common.{◌≡◌, ℕ, zero, suc, ◌+◌, ◌-◌, ◌*◌, ◌≤◌, ◌<◌, List, length, get_or, replicate, All, arith, sym, ◌∙◌, refl, subst}
use Rattle.std.specs.Prelude.{ℤ, pos, ◌+ℤ◌, ◌≤ℤ◌, neg_ℤ}
use Rattle.std.proofs.lemmas.Int.{ints}
use Rattle.std.proofs.lemmas.List.{length-replicate}
use Rattle.std.proofs.Math.Nat.{mul-le-mul_left}
use Rattle.def_sums.proofs.Ranges.{All-range}
use Rattle.def_tree.specs.declared.Player.TheVariants.{One, Two}
use Rattle.def_plan.specs.Form.{InformationSet, PlacedSet, placed, sequences_of, sequence_count, sequences, AreInOrder, SequenceForm}
use Rattle.def_plan.specs.Plan.{IsPlan}
use Rattle.def_plan.specs.Payoff.{gain, pay}
use Rattle.def_plan.proofs.Adding.{length-added}
use Rattle.def_round.specs.Play.{regret_of}
use Rattle.def_round.specs.Round.{own_sum}
use Rattle.def_round.specs.Rounds.{Standing, next_round, rounds}
use Rattle.def_round.proofs.Gains.{own_sums_gain}
use Rattle.def_run.proofs.RunLaws.{evaluations_are_bounds}
use Rattle.def_closing.specs.Width.{root_up, IsSpread, dealing_cost, regret_bound}
use Rattle.def_closing.specs.Laws.{EvaluationsClose}
use Rattle.def_closing.proofs.Roots.{roots_are_up}
use Rattle.def_closing.proofs.BothPlayers.{both_players, dealt_one, dealt_two}
use Rattle.def_closing.proofs.OneRound.{square_bound, side_bound}
use Rattle.def_closing.proofs.AllRounds.{AreWithin, within_at_first, within_next, regrets_within}
use Rattle.def_closing.proofs.Paid.{pay-added_one, pay-added_two, pay-cleared_one, pay-cleared_two, gain-none, regrets_gain}
use Rattle.def_plus.proofs.PlusRegrets.{none_yet}

-- ---- all rounds
pub record StandsWithin (form : SequenceForm) (root last n : ℕ) (spread_one spread_two : PlacedSet → ℕ) (standing : Standing) : Type 0 where
  pub within_one : AreWithin root last n spread_one form.sets_one standing.regrets_one
  pub within_two : AreWithin root last n spread_two form.sets_two standing.regrets_two
  pub none_one : regret_of standing.regrets_one 0 ≡ pos 0
  pub none_two : regret_of standing.regrets_two 0 ≡ pos 0
  pub long_one : length standing.sum_one ≡ sequence_count form.sets_one
  pub long_two : length standing.sum_two ≡ sequence_count form.sets_two
  pub paid : (q_one q_two : List ℕ) → IsPlan form.sets_one 1 q_one → IsPlan form.sets_two 1 q_two
      → pay form.leaves q_one standing.sum_two
      ≤ℤ ((pay form.leaves standing.sum_one q_two +ℤ (gain (regret_of standing.regrets_one) form.sets_one q_one +ℤ gain (regret_of standing.regrets_two)
      form.sets_two q_two)) +ℤ pos (n * (dealing_cost spread_one form.sets_one + dealing_cost spread_two form.sets_two)))

at_first : (form : SequenceForm) (root last : ℕ) (spread_one spread_two : PlacedSet → ℕ)
    → StandsWithin form root last 0 spread_one spread_two (rounds form root 0)
at_first form root last spread_one spread_two = record {
  within_one = within_at_first root last spread_one form.sets_one (sequence_count form.sets_one);
  within_two = within_at_first root last spread_two form.sets_two (sequence_count form.sets_two);
  none_one = none_yet (sequence_count form.sets_one) 0;
  none_two = none_yet (sequence_count form.sets_two) 0;
  long_one = length-replicate (sequence_count form.sets_one) 0;
  long_two = length-replicate (sequence_count form.sets_two) 0;
  paid = λ q_one q_two plan_one plan_two. omega (
    arith,
    ints,
    pay-cleared_two form.leaves q_one (sequence_count form.sets_two),
    pay-cleared_one form.leaves (sequence_count form.sets_one) q_two,
    gain-none (regret_of (replicate (sequence_count form.sets_one) (pos 0))) (sequences form.sets_one) q_one (none_yet (sequence_count form.sets_one)),
    gain-none (regret_of (replicate (sequence_count form.sets_two) (pos 0))) (sequences form.sets_two) q_two (none_yet (sequence_count form.sets_two)),
  );
}

module _ (form : SequenceForm) (root last : ℕ) (spread_one spread_two : PlacedSet → ℕ)
    (order_one : AreInOrder form.sets_one) (order_two : AreInOrder form.sets_two) (some : 1 ≤ root)
    (are_one : IsSpread One form spread_one) (are_two : IsSpread Two form spread_two) where
  one_more : (n : ℕ) (before : Standing) → n < last → StandsWithin form root last n spread_one spread_two before
      → StandsWithin form root last (n + 1) spread_one spread_two (next_round form root before)
  one_more n before early stands =
      let x : List ℕ = dealt_one form root before in
      let y : List ℕ = dealt_two form root before in
      let sums_one : ℕ → ℤ = own_sum One form.leaves y in
      let sums_two : ℕ → ℤ = own_sum Two form.leaves x in
      let both = both_players form root spread_one spread_two order_one order_two some are_one are_two before stands.none_one stands.none_two in
      let long_x : length before.sum_one ≡ length x = stands.long_one ∙ sym both.plan_one.all_sequences in
      let long_y : length before.sum_two ≡ length y = stands.long_two ∙ sym both.plan_two.all_sequences in
      record {
        within_one = within_next root last n spread_one sums_one form.sets_one before.regrets_one order_one early both.near_one stands.within_one;
        within_two = within_next root last n spread_two sums_two form.sets_two before.regrets_two order_two early both.near_two stands.within_two;
        none_one = refl;
        none_two = refl;
        long_one = length-added before.sum_one x long_x ∙ stands.long_one;
        long_two = length-added before.sum_two y long_y ∙ stands.long_two;
        paid = λ q_one q_two plan_one plan_two.
            let gains_one : gain sums_one form.sets_one q_one ≡ pay form.leaves q_one y = (own_sums_gain form q_one y).of_one plan_one.all_sequences in
            let gains_two : gain sums_two form.sets_two q_two ≡ neg_ℤ (pay form.leaves x q_two) = (own_sums_gain form x q_two).of_two plan_two.all_sequences in
            omega (
              arith,
              ints,
              stands.paid q_one q_two plan_one plan_two,
              both.round_one.identity q_one plan_one,
              both.round_two.identity q_two plan_two,
              gains_one,
              gains_two,
              both.cancel,
              pay-added_two form.leaves q_one before.sum_two y long_y,
              pay-added_one form.leaves before.sum_one x q_two long_x,
            );
      }

  pub stands_within : (n : ℕ) → n ≤ last → StandsWithin form root last n spread_one spread_two (rounds form root n)
  stands_within zero early = at_first form root last spread_one spread_two
  stands_within (suc n) early =
      subst (λ m. StandsWithin form root last m spread_one spread_two (rounds form root (suc n))) (sym (suc-is n))
      (one_more n (rounds form root n) (omega arith) (stands_within n (omega arith)))
    where
      suc-is : (n : ℕ) → suc n ≡ n + 1
      suc-is n = omega arith

-- the square that bounds a set's regrets is large enough for all rounds
enough : (root last : ℕ) (spread : PlacedSet → ℕ) (h : PlacedSet)
    → last * square_bound root spread h ≤ side_bound root last spread h * side_bound root last spread h
enough root last spread h =
    let l : ℕ = root * spread h in
    let side : ℕ = root_up (last * (h.actions - 1)) in
    let long : (l * l) * (last * (h.actions - 1)) ≤ (l * l) * (side * side) = mul-le-mul_left (l * l) (roots_are_up (last * (h.actions - 1))) in
    omega arith

pub all_regrets : (root last : ℕ) (spread : PlacedSet → ℕ) (sets : List InformationSet) (regrets : List ℤ)
    → AreWithin root last last spread sets regrets
    → All (λ h. All (λ s. regret_of regrets s ≤ℤ pos (regret_bound last root spread h)) (sequences_of h)) (placed sets)
all_regrets root last spread sets regrets within k d low =
    let h : PlacedSet = get_or (placed sets) k d in
    All-range (λ s. regret_of regrets s ≤ℤ pos (regret_bound last root spread h)) h.first h.actions
    (λ s from to. regrets_within root last spread h regrets (within k d low) (enough root last spread h) s from to)

-- after the rounds the ceiling is above the floor by at most the bound
pub evaluations_close : EvaluationsClose
evaluations_close form root last spread_one spread_two order_one order_two some some_round are_one are_two =
    let standing : Standing = rounds form root last in
    let stands = stands_within form root last spread_one spread_two order_one order_two some are_one are_two last (omega arith) in
    let bounds = evaluations_are_bounds form root last order_one order_two some some_round in
    let reply_one = bounds.ceiling_attained in
    let reply_two = bounds.floor_attained in
    let one =
    regrets_gain form.sets_one standing.regrets_one _ (regret_bound last root spread_one) order_one reply_one.is_plan stands.none_one
    (all_regrets root last spread_one form.sets_one standing.regrets_one stands.within_one) in
    let two =
    regrets_gain form.sets_two standing.regrets_two _ (regret_bound last root spread_two) order_two reply_two.is_plan stands.none_two
    (all_regrets root last spread_two form.sets_two standing.regrets_two stands.within_two) in
    let paid = stands.paid _ _ reply_one.is_plan reply_two.is_plan in
    omega (arith, ints, one, two, paid, reply_one.pays, reply_two.pays)
