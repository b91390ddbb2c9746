-- How far apart the bounds of both sums of plans are after some rounds of CFR+.
use Rattle.std.proofs.Common.{◌≡◌, ℕ, zero, suc, ◌+◌, ◌*◌, ◌≤◌, ◌<◌, List, [], ◌∷◌, length, get_or, slice_index, arith, ap, sym, ◌∙◌, refl, subst}
use Rattle.std.specs.Prelude.{ℤ, pos, ◌+ℤ◌, ◌*ℤ◌, ◌≤ℤ◌, neg_ℤ}
use Rattle.std.specs.Int.{int_max}
use Rattle.std.proofs.lemmas.Int.{ints, clamps}
use Rattle.std.proofs.lemmas.List.{length-replicate}
use Rattle.def_sums.specs.Sum.{sum_over, nat_sum_over}
use Rattle.def_sums.proofs.RingLaws.{*ℤ-+ℤ, *ℤ-mono, *ℤ-mono_right, one-*ℤ, *ℤ_comm, *ℤ_assoc, +ℤ-*ℤ, *ℤ-zero, zero-*ℤ}
use Rattle.def_sums.proofs.SumLaws.{nat_sum_over-same}
use Rattle.def_tree.specs.declared.Player.TheVariants.{One, Two}
use Rattle.def_plan.specs.Form.{InformationSet, PlacedSet, placed, sequences_of, sequence_count, sequences, AreInOrder, SequenceForm, Leaf}
use Rattle.def_plan.specs.Plan.{IsPlan}
use Rattle.def_plan.specs.Payoff.{gain, pay}
use Rattle.def_round.specs.Play.{positive_part, regret_of, play_of}
use Rattle.def_round.specs.Round.{own_sum, regrets_after}
use Rattle.def_round.specs.Rounds.{Standing}
use Rattle.def_round.proofs.Gains.{own_sums_gain}
use Rattle.def_run.proofs.WeighedEnds.{weighed_evaluations_are_bounds}
use Rattle.def_plus.specs.Cut.{cut}
use Rattle.def_plus.specs.Multiple.{added_times}
use Rattle.def_plus.specs.Weights.{total_weight}
use Rattle.def_plus.specs.PlusRounds.{next_plus_round, plus_rounds}
use Rattle.def_plus.proofs.Cuts.{not_negative-cut, regret_of-cut, same_part}
use Rattle.def_plus.proofs.Multiples.{at-added_times, length-added_times}
use Rattle.def_plus.proofs.WeightLaws.{next_weight}
use Rattle.def_plus.proofs.PlusRegrets.{none_yet}
use Rattle.def_plus_run.specs.PlusRun.{plus_run, plus_evaluation}
use Rattle.def_plus_run.proofs.PlusRuns.{plus_runs_sum_plans}
use Rattle.def_closing.specs.Width.{IsSpread, dealing_cost, regret_bound, plus_width_bound}
use Rattle.def_closing.specs.Laws.{PlusEvaluationsClose, PlusBracketsClose}
use Rattle.def_closing.proofs.Potential.{potential}
use Rattle.def_closing.proofs.AllRounds.{AreWithin, within_at_first, within_next}
use Rattle.def_closing.proofs.Paid.{pay-cleared_one, pay-cleared_two, regrets_gain}
use Rattle.def_closing.proofs.BothPlayers.{both_players, dealt_one, dealt_two, worth_one, worth_two}
use Rattle.def_closing.proofs.Closing.{all_regrets}
use Rattle.def_closing.proofs.Ends.{ends_close_in}

-- ---- a cut keeps the potential and loses no gain
cut_within : (root last t : ℕ) (spread : PlacedSet → ℕ) (sets : List InformationSet) (regrets : List ℤ)
    → AreWithin root last t spread sets regrets → AreWithin root last t spread sets (cut regrets)
cut_within root last t spread sets regrets within k d low =
    let h : PlacedSet = get_or (placed sets) k d in
    let same : potential (regret_of (cut regrets)) (sequences_of h) ≡ potential (regret_of regrets) (sequences_of h) =
    nat_sum_over-same (λ s. positive_part (regret_of (cut regrets) s) * positive_part (regret_of (cut regrets) s))
    (λ s. positive_part (regret_of regrets s) * positive_part (regret_of regrets s)) (sequences_of h)
    (λ i e l. ap (λ n. n * n) (ap positive_part (regret_of-cut regrets _) ∙ same_part (regret_of regrets _))) in
    omega (arith, same, within k d low)

max_above : (r : ℤ) → r ≤ℤ int_max (pos 0) r
max_above r = omega (arith, ints, clamps)

cut_gain_over : (regrets : List ℤ) (x : List ℕ) (xs : List ℕ)
    → sum_over (λ s. regret_of regrets s *ℤ pos (slice_index x s)) xs ≤ℤ sum_over (λ s. regret_of (cut regrets) s *ℤ pos (slice_index x s)) xs
cut_gain_over regrets x [] = omega (arith, ints)
cut_gain_over regrets x (s ∷ xs) =
    let above : regret_of regrets s ≤ℤ regret_of (cut regrets) s =
    subst (λ z. regret_of regrets s ≤ℤ z) (sym (regret_of-cut regrets s)) (max_above (regret_of regrets s)) in
    omega (arith, ints, *ℤ-mono_right (slice_index x s) (regret_of regrets s) (regret_of (cut regrets) s) above, cut_gain_over regrets x xs)

cut_gain : (regrets : List ℤ) (sets : List InformationSet) (x : List ℕ)
    → gain (regret_of regrets) sets x ≤ℤ gain (regret_of (cut regrets)) sets x
cut_gain regrets sets x = cut_gain_over regrets x (sequences sets)

no_loss : (r : ℕ → ℤ) (x : List ℕ) (xs : List ℕ) → ((s : ℕ) → pos 0 ≤ℤ r s)
    → pos 0 ≤ℤ sum_over (λ s. r s *ℤ pos (slice_index x s)) xs
no_loss r x [] positive = omega (arith, ints)
no_loss r x (s ∷ xs) positive =
    omega (arith, ints, *ℤ-mono_right (slice_index x s) (pos 0) (r s) (positive s), zero-*ℤ (pos (slice_index x s)), no_loss r x xs positive)

-- ---- what plans pay that are added so many times
times_more : (w : ℤ) (a b c k : ℕ) → w *ℤ pos (a * (b + k * c)) ≡ w *ℤ pos (a * b) +ℤ pos k *ℤ (w *ℤ pos (a * c))
times_more w a b c k =
    let split : w *ℤ pos (a * (b + k * c)) ≡ w *ℤ pos (a * b) +ℤ w *ℤ pos (k * (a * c)) =
    ap (λ n. w *ℤ pos n) (omega arith) ∙ *ℤ-+ℤ w (pos (a * b)) (pos (k * (a * c))) in
    let turn : w *ℤ pos (k * (a * c)) ≡ pos k *ℤ (w *ℤ pos (a * c)) =
    *ℤ_comm w (pos (k * (a * c))) ∙ *ℤ_assoc (pos k) (pos (a * c)) w ∙ ap (λ z. pos k *ℤ z) (*ℤ_comm (pos (a * c)) w) in
    omega (arith, ints, split, turn)

pay-times_two : (leaves : List Leaf) (x y z : List ℕ) (k : ℕ) → length y ≡ length z
    → pay leaves x (added_times y z k) ≡ pay leaves x y +ℤ pos k *ℤ pay leaves x z
pay-times_two [] x y z k e = omega (arith, ints, *ℤ-zero (pos k))
pay-times_two (l ∷ ls) x y z k e =
    let here : l.weight *ℤ pos (slice_index x l.sequence_one * slice_index (added_times y z k) l.sequence_two)
    ≡ l.weight *ℤ pos (slice_index x l.sequence_one * (slice_index y l.sequence_two + k * slice_index z l.sequence_two)) =
    ap (λ n. l.weight *ℤ pos (slice_index x l.sequence_one * n)) (at-added_times y z k l.sequence_two e) in
    omega (
      arith,
      ints,
      here,
      times_more l.weight (slice_index x l.sequence_one) (slice_index y l.sequence_two) (slice_index z l.sequence_two) k,
      pay-times_two ls x y z k e,
      *ℤ-+ℤ (pos k) (l.weight *ℤ pos (slice_index x l.sequence_one * slice_index z l.sequence_two)) (pay ls x z),
    )

times_more_left : (w : ℤ) (a b c k : ℕ) → w *ℤ pos ((a + k * b) * c) ≡ w *ℤ pos (a * c) +ℤ pos k *ℤ (w *ℤ pos (b * c))
times_more_left w a b c k =
    let turned : (a + k * b) * c ≡ c * (a + k * b) = omega arith in
    let one : c * a ≡ a * c = omega arith in
    let two : c * b ≡ b * c = omega arith in
    ap (λ n. w *ℤ pos n) turned ∙ times_more w c a b k ∙ ap (λ n. w *ℤ pos n +ℤ pos k *ℤ (w *ℤ pos (c * b))) one
    ∙ ap (λ n. w *ℤ pos (a * c) +ℤ pos k *ℤ (w *ℤ pos n)) two

pay-times_one : (leaves : List Leaf) (x y z : List ℕ) (k : ℕ) → length x ≡ length y
    → pay leaves (added_times x y k) z ≡ pay leaves x z +ℤ pos k *ℤ pay leaves y z
pay-times_one [] x y z k e = omega (arith, ints, *ℤ-zero (pos k))
pay-times_one (l ∷ ls) x y z k e =
    let here : l.weight *ℤ pos (slice_index (added_times x y k) l.sequence_one * slice_index z l.sequence_two)
    ≡ l.weight *ℤ pos ((slice_index x l.sequence_one + k * slice_index y l.sequence_one) * slice_index z l.sequence_two) =
    ap (λ n. l.weight *ℤ pos (n * slice_index z l.sequence_two)) (at-added_times x y k l.sequence_one e) in
    omega (
      arith,
      ints,
      here,
      times_more_left l.weight (slice_index x l.sequence_one) (slice_index y l.sequence_one) (slice_index z l.sequence_two) k,
      pay-times_one ls x y z k e,
      *ℤ-+ℤ (pos k) (l.weight *ℤ pos (slice_index y l.sequence_one * slice_index z l.sequence_two)) (pay ls y z),
    )

-- ---- one round, in numbers: old sums, what the round's plans pay, regrets before, after and cut, worths and cost
weighed_step : (n weight c : ℕ) (two one p_two p_one g_one g_two a_one a_two c_one c_two w_one w_two : ℤ)
    → two ≤ℤ ((one +ℤ pos n *ℤ (g_one +ℤ g_two)) +ℤ pos (weight * c))
    → a_one +ℤ w_one ≡ g_one +ℤ p_two → a_two +ℤ w_two ≡ g_two +ℤ neg_ℤ p_one
    → a_one ≤ℤ c_one → a_two ≤ℤ c_two → pos 0 ≤ℤ g_one → pos 0 ≤ℤ g_two → (w_one +ℤ w_two) ≤ℤ pos c
    → (two +ℤ pos (n + 1) *ℤ p_two) ≤ℤ (((one +ℤ pos (n + 1) *ℤ p_one) +ℤ pos (n + 1) *ℤ (c_one +ℤ c_two)) +ℤ pos ((weight + (n + 1)) * c))
weighed_step n weight c two one p_two p_one g_one g_two a_one a_two c_one c_two w_one w_two before id_one id_two cut_one cut_two pos_one pos_two cancel =
    let more = *ℤ-mono (n + 1) (p_two +ℤ (g_one +ℤ g_two)) ((p_one +ℤ (c_one +ℤ c_two)) +ℤ pos c) (omega (arith, ints)) in
    let left : pos (n + 1) *ℤ (p_two +ℤ (g_one +ℤ g_two)) ≡ pos (n + 1) *ℤ p_two +ℤ pos (n + 1) *ℤ (g_one +ℤ g_two) =
    *ℤ-+ℤ (pos (n + 1)) p_two (g_one +ℤ g_two) in
    let next : pos (n + 1) *ℤ (g_one +ℤ g_two) ≡ pos n *ℤ (g_one +ℤ g_two) +ℤ pos 1 *ℤ (g_one +ℤ g_two) = +ℤ-*ℤ (pos n) (pos 1) (g_one +ℤ g_two) in
    let right : pos (n + 1) *ℤ ((p_one +ℤ (c_one +ℤ c_two)) +ℤ pos c) ≡ (pos (n + 1) *ℤ p_one +ℤ pos (n + 1) *ℤ (c_one +ℤ c_two)) +ℤ pos ((n + 1) * c) =
    *ℤ-+ℤ (pos (n + 1)) (p_one +ℤ (c_one +ℤ c_two)) (pos c) ∙ ap (λ z. z +ℤ pos ((n + 1) * c)) (*ℤ-+ℤ (pos (n + 1)) p_one (c_one +ℤ c_two)) in
    let all : (weight + (n + 1)) * c ≡ weight * c + (n + 1) * c = omega arith in
    omega (arith, ints, before, more, left, next, right, all, one-*ℤ (g_one +ℤ g_two))

-- ---- all rounds
record StandsWithin (form : SequenceForm) (root last n : ℕ) (spread_one spread_two : PlacedSet → ℕ) (standing : Standing) : Type 0 where
  within_one : AreWithin root last n spread_one form.sets_one standing.regrets_one
  within_two : AreWithin root last n spread_two form.sets_two standing.regrets_two
  none_one : regret_of standing.regrets_one 0 ≡ pos 0
  none_two : regret_of standing.regrets_two 0 ≡ pos 0
  positive_one : (s : ℕ) → pos 0 ≤ℤ regret_of standing.regrets_one s
  positive_two : (s : ℕ) → pos 0 ≤ℤ regret_of standing.regrets_two s
  long_one : length standing.sum_one ≡ sequence_count form.sets_one
  long_two : length standing.sum_two ≡ sequence_count form.sets_two
  paid : (q_one q_two : List ℕ) → IsPlan form.sets_one 1 q_one → IsPlan form.sets_two 1 q_two
      → pay form.leaves q_one standing.sum_two
      ≤ℤ ((pay form.leaves standing.sum_one q_two +ℤ pos
      n *ℤ (gain (regret_of standing.regrets_one) form.sets_one q_one +ℤ gain (regret_of standing.regrets_two) form.sets_two q_two)) +ℤ pos
      (total_weight n * (dealing_cost spread_one form.sets_one + dealing_cost spread_two form.sets_two)))

at_first : (form : SequenceForm) (root last : ℕ) (spread_one spread_two : PlacedSet → ℕ)
    → StandsWithin form root last 0 spread_one spread_two (plus_rounds form root 0)
at_first form root last spread_one spread_two = record {
  within_one = within_at_first root last spread_one form.sets_one (sequence_count form.sets_one);
  within_two = within_at_first root last spread_two form.sets_two (sequence_count form.sets_two);
  none_one = none_yet (sequence_count form.sets_one) 0;
  none_two = none_yet (sequence_count form.sets_two) 0;
  positive_one = λ s. omega (arith, ints, none_yet (sequence_count form.sets_one) s);
  positive_two = λ s. omega (arith, ints, none_yet (sequence_count form.sets_two) s);
  long_one = length-replicate (sequence_count form.sets_one) 0;
  long_two = length-replicate (sequence_count form.sets_two) 0;
  paid = λ q_one q_two plan_one plan_two. omega (
    arith,
    ints,
    pay-cleared_two form.leaves q_one (sequence_count form.sets_two),
    pay-cleared_one form.leaves (sequence_count form.sets_one) q_two,
    zero-*ℤ (gain (regret_of (plus_rounds form root 0).regrets_one) form.sets_one q_one +ℤ gain (regret_of (plus_rounds form root 0).regrets_two) form.sets_two
        q_two),
  );
}

module _ (form : SequenceForm) (root last : ℕ) (spread_one spread_two : PlacedSet → ℕ)
    (order_one : AreInOrder form.sets_one) (order_two : AreInOrder form.sets_two) (some : 1 ≤ root)
    (are_one : IsSpread One form spread_one) (are_two : IsSpread Two form spread_two) where
  one_round : (n : ℕ) (before : Standing) → n < last → StandsWithin form root last n spread_one spread_two before
      → StandsWithin form root last (n + 1) spread_one spread_two (next_plus_round form root (n + 1) before)
  one_round n before early stands =
      let x : List ℕ = dealt_one form root before in
      let y : List ℕ = dealt_two form root before in
      let sums_one : ℕ → ℤ = own_sum One form.leaves y in
      let sums_two : ℕ → ℤ = own_sum Two form.leaves x in
      let after_one : List ℤ = regrets_after sums_one (play_of form.sets_one before.regrets_one) form.sets_one before.regrets_one in
      let after_two : List ℤ = regrets_after sums_two (play_of form.sets_two before.regrets_two) form.sets_two before.regrets_two in
      let both = both_players form root spread_one spread_two order_one order_two some are_one are_two before stands.none_one stands.none_two in
      let long_x : length before.sum_one ≡ length x = stands.long_one ∙ sym both.plan_one.all_sequences in
      let long_y : length before.sum_two ≡ length y = stands.long_two ∙ sym both.plan_two.all_sequences in
      record {
        within_one =
            cut_within root last (n + 1) spread_one form.sets_one after_one
            (within_next root last n spread_one sums_one form.sets_one before.regrets_one order_one early both.near_one stands.within_one);
        within_two =
            cut_within root last (n + 1) spread_two form.sets_two after_two
            (within_next root last n spread_two sums_two form.sets_two before.regrets_two order_two early both.near_two stands.within_two);
        none_one = refl;
        none_two = refl;
        positive_one = not_negative-cut after_one;
        positive_two = not_negative-cut after_two;
        long_one = length-added_times before.sum_one x (n + 1) long_x ∙ stands.long_one;
        long_two = length-added_times before.sum_two y (n + 1) long_y ∙ stands.long_two;
        paid = λ q_one q_two plan_one plan_two.
            let gains_one : gain sums_one form.sets_one q_one ≡ pay form.leaves q_one y = (own_sums_gain form q_one y).of_one plan_one.all_sequences in
            let gains_two : gain sums_two form.sets_two q_two ≡ neg_ℤ (pay form.leaves x q_two) = (own_sums_gain form x q_two).of_two plan_two.all_sequences in
            let all : ℕ = dealing_cost spread_one form.sets_one + dealing_cost spread_two form.sets_two in
            let step = weighed_step n (total_weight n) all
            (pay form.leaves q_one before.sum_two) (pay form.leaves before.sum_one q_two) (pay form.leaves q_one y) (pay form.leaves x q_two)
            (gain (regret_of before.regrets_one) form.sets_one q_one) (gain (regret_of before.regrets_two) form.sets_two q_two)
            (gain (regret_of after_one) form.sets_one q_one) (gain (regret_of after_two) form.sets_two q_two)
            (gain (regret_of (cut after_one)) form.sets_one q_one) (gain (regret_of (cut after_two)) form.sets_two q_two)
            (worth_one form root before) (worth_two form root before)
            (stands.paid q_one q_two plan_one plan_two)
            (both.round_one.identity q_one plan_one ∙ ap (λ z. gain (regret_of before.regrets_one) form.sets_one q_one +ℤ z) gains_one)
            (both.round_two.identity q_two plan_two ∙ ap (λ z. gain (regret_of before.regrets_two) form.sets_two q_two +ℤ z) gains_two)
            (cut_gain after_one form.sets_one q_one) (cut_gain after_two form.sets_two q_two)
            (no_loss (regret_of before.regrets_one) q_one (sequences form.sets_one) stands.positive_one)
            (no_loss (regret_of before.regrets_two) q_two (sequences form.sets_two) stands.positive_two) both.cancel in
            let weighs : (total_weight n + (n + 1)) * all ≡ total_weight (n + 1) * all = ap (λ w. w * all) (sym (next_weight n)) in
            omega (
              arith,
              ints,
              step,
              weighs,
              pay-times_two form.leaves q_one before.sum_two y (n + 1) long_y,
              pay-times_one form.leaves before.sum_one x q_two (n + 1) long_x,
            );
      }

  stands_within : (n : ℕ) → n ≤ last → StandsWithin form root last n spread_one spread_two (plus_rounds form root n)
  stands_within zero early = at_first form root last spread_one spread_two
  stands_within (suc n) early =
      subst (λ m. StandsWithin form root last m spread_one spread_two (next_plus_round form root m (plus_rounds form root n))) (sym (suc-is n))
      (one_round n (plus_rounds form root n) (omega arith) (stands_within n (omega arith)))
    where
      suc-is : (n : ℕ) → suc n ≡ n + 1
      suc-is n = omega arith

-- after the rounds the ceiling is above the floor by at most the bound
bounded : (last : ℕ) (high low paid_two paid_one g_one g_two : ℤ) (b_one b_two rest : ℕ)
    → paid_two ≤ℤ ((paid_one +ℤ pos last *ℤ (g_one +ℤ g_two)) +ℤ pos rest) → paid_two ≡ high → paid_one ≡ low
    → g_one ≤ℤ pos b_one → g_two ≤ℤ pos b_two → high ≤ℤ (low +ℤ pos (last * (b_one + b_two) + rest))
bounded last high low paid_two paid_one g_one g_two b_one b_two rest paid is_high is_low one two =
    let more = *ℤ-mono last (g_one +ℤ g_two) (pos (b_one + b_two)) (omega (arith, ints)) in
    omega (arith, ints, more, paid, is_high, is_low)

pub plus_evaluations_close : PlusEvaluationsClose
plus_evaluations_close form root last spread_one spread_two order_one order_two some some_round are_one are_two =
    let standing : Standing = plus_rounds form root last in
    let stands = stands_within form root last spread_one spread_two order_one order_two some are_one are_two last (omega arith) in
    let bounds =
    weighed_evaluations_are_bounds form root (plus_run form root) last order_one order_two (plus_runs_sum_plans form root order_one order_two some)
    some_round in
    let reply_one = bounds.ceiling_attained in
    let reply_two = bounds.floor_attained in
    let one =
    regrets_gain form.sets_one standing.regrets_one _ (regret_bound last root spread_one) order_one reply_one.is_plan stands.none_one
    (all_regrets root last spread_one form.sets_one standing.regrets_one stands.within_one) in
    let two =
    regrets_gain form.sets_two standing.regrets_two _ (regret_bound last root spread_two) order_two reply_two.is_plan stands.none_two
    (all_regrets root last spread_two form.sets_two standing.regrets_two stands.within_two) in
    let paid = stands.paid _ _ reply_one.is_plan reply_two.is_plan in
    let result = bounded last (plus_evaluation form root last).high (plus_evaluation form root last).low _ _ _ _
    (nat_sum_over (regret_bound last root spread_one) (placed form.sets_one)) (nat_sum_over (regret_bound last root spread_two) (placed form.sets_two))
    (total_weight last * (dealing_cost spread_one form.sets_one + dealing_cost spread_two form.sets_two)) paid reply_one.pays reply_two.pays one two in
    omega (arith, ints, result)

-- the ends of a run of CFR+
pub plus_brackets_close : PlusBracketsClose
plus_brackets_close form root every last spread_one spread_two ends order_one order_two some some_round are_one are_two are =
    ends_close_in form (plus_run form root) every last (plus_width_bound form root spread_one spread_two last) ends
    (plus_runs_sum_plans form root order_one order_two some).some_weight some_round are
    (plus_evaluations_close form root last spread_one spread_two order_one order_two some some_round are_one are_two)
