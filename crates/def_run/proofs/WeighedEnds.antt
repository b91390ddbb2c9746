-- The ends of a run that sums plans, from the laws of replies and of the bracket.
use Rattle.std.proofs.Common.{◌≡◌, ℕ, zero, suc, ◌*◌, ◌≤◌, ◌<◌, List, [], ◌∷◌, length, get_or, map, arith, ap, sym, ◌∙◌, refl, subst, inr, Some}
use Rattle.std.specs.Prelude.{ℤ, pos, ◌*ℤ◌, ◌≤ℤ◌}
use Rattle.std.proofs.lemmas.List.Elements.{Contains-get_or}
use Rattle.std.proofs.Math.Nat.{le_refl, mul_comm}
use Rattle.def_sums.proofs.RingLaws.{*ℤ_comm, *ℤ_assoc, *ℤ-cancel}
use Rattle.def_tree.specs.declared.Player.TheVariants.{One, Two}
use Rattle.def_plan.specs.Form.{SequenceForm}
use Rattle.def_plan.specs.Plan.{pure_plan}
use Rattle.def_reply.specs.Reply.{choices_of}
use Rattle.def_reply.specs.Bounds.{IsFloor, IsCeiling, AttainsFloor, AttainsCeiling}
use Rattle.def_reply.specs.Bracket.{Evaluation, BracketEnds, ends_of, evaluated_rounds}
use Rattle.def_reply.specs.BracketLaws.{HaveDivisors, DivideBy}
use Rattle.def_reply.proofs.BoundLaws.{best_bounds, floors_below}
use Rattle.def_reply.proofs.BestEnds.{best_ends}
use Rattle.def_reply.proofs.EvaluatedRounds.{rounds as rounds_evaluated}
use Rattle.def_round.proofs.Sums.{rounds_sum_to_plans}
use Rattle.def_run.specs.Run.{reply_to, WeighedRun, HasWeights, evaluation_in, evaluations_in, lower_plan_in, upper_plan_in}
use Rattle.def_run.specs.WeighedLaws.{PlainRunsSumPlans, IsEndIn, WeighedEvaluationsAreBounds, WeighedEndsAreTheEarliestBest, WeighedEndsAreBounds}
use Rattle.def_run.specs.WeighedLaws.{WeighedRunsHaveEnds, WeighedEndsAreInOrder, GapOfWeighedRunIsExploitability, WeighedEndsBoundAllPlans}

-- after any round both sums are plans, and their evaluation is an attained floor and an attained ceiling
pub weighed_evaluations_are_bounds : WeighedEvaluationsAreBounds
weighed_evaluations_are_bounds form root run round order_one order_two sums some = record {
  plan_one = sums.of_one round some;
  plan_two = sums.of_two round some;
  floor = best_bounds.floor form (run.sum_one round) order_two;
  floor_attained = best_bounds.floor_attained form (run.sum_one round) order_two;
  ceiling = best_bounds.ceiling form (run.sum_two round) order_one;
  ceiling_attained = best_bounds.ceiling_attained form (run.sum_two round) order_one;
}

-- ---- the ends
pub length_evaluations : (form : SequenceForm) (run : WeighedRun) (ks : List ℕ) → length (map (evaluation_in form run) ks) ≡ length ks
length_evaluations form run [] = refl
length_evaluations form run (k ∷ ks) = ap suc (length_evaluations form run ks)

get_or_map : (form : SequenceForm) (run : WeighedRun) (ks : List ℕ) (k : ℕ) (d : Evaluation) → k < length ks
    → get_or (map (evaluation_in form run) ks) k d ≡ evaluation_in form run (get_or ks k 0)
get_or_map form run [] k d below = absurd (omega arith)
get_or_map form run (x ∷ xs) zero d below = refl
get_or_map form run (x ∷ xs) (suc k) d below = get_or_map form run xs k d (omega arith)

-- each evaluation is that of a round, which is an evaluated one
pub each_is_of_a_round : (form : SequenceForm) (run : WeighedRun) (every last place : ℕ) (d : Evaluation)
    → place < length (evaluations_in form run every last)
    → IsEndIn form run every last (get_or (evaluations_in form run every last) place d)
each_is_of_a_round form run every last place d within =
    let ks : List ℕ = evaluated_rounds every last in
    let in_range : place < length ks = omega (arith, length_evaluations form run ks, within) in
    let k : ℕ = get_or ks place 0 in
    let facts = (rounds_evaluated.which every last k).0 (Contains-get_or ks place 0 in_range) in
    subst (IsEndIn form run every last) (sym (get_or_map form run ks place d in_range))
    (record { is = refl; some = facts.0; in_time = facts.1; evaluated = facts.2 })

-- each is divided by what its rounds weigh, so none by 0
pub divided_in : (form : SequenceForm) (run : WeighedRun) (every last : ℕ) → HasWeights run
    → DivideBy run.weight (evaluations_in form run every last)
divided_in form run every last weights k d below =
    let of_round = each_is_of_a_round form run every last k d below in
    subst (λ (e : Evaluation). (1 ≤ e.divisor) × (e.divisor ≡ run.weight e.round)) (sym of_round.is) (weights _ of_round.some, refl)

pub divisors_in : (form : SequenceForm) (run : WeighedRun) (every last : ℕ) → HasWeights run
    → HaveDivisors (evaluations_in form run every last)
divisors_in form run every last weights k d below = (divided_in form run every last weights k d below).0

-- each end is the earliest best evaluation, after a round that was evaluated
pub weighed_ends_are_the_earliest_best : WeighedEndsAreTheEarliestBest
weighed_ends_are_the_earliest_best form run every last ends weights are =
    let divisors = divisors_in form run every last weights in
    let lower = best_ends.lower (evaluations_in form run every last) ends divisors are in
    let upper = best_ends.upper (evaluations_in form run every last) ends divisors are in
    record {
      of_lower = subst (IsEndIn form run every last) (lower.stands ends.lower) (each_is_of_a_round form run every last lower.place ends.lower lower.within);
      of_upper = subst (IsEndIn form run every last) (upper.stands ends.upper) (each_is_of_a_round form run every last upper.place ends.upper upper.within);
      lower = lower;
      upper = upper;
    }

-- some evaluation gives ends
pub some_ends : (es : List Evaluation) → 1 ≤ length es → (ends : BracketEnds) × (ends_of es ≡ Some ends)
some_ends [] none = absurd (omega arith)
some_ends (e ∷ es) some = (_, refl)

-- where at least one round is asked, some evaluation stands at each end
pub weighed_runs_have_ends : WeighedRunsHaveEnds
weighed_runs_have_ends form run every last some =
    let has = (rounds_evaluated.which every last last).1 (some, le_refl last, inr refl) in
    some_ends (evaluations_in form run every last) (omega (arith, length_evaluations form run (evaluated_rounds every last), has.1))

-- ---- the bounds at both ends
-- the plans at both ends have their evaluations' totals as their floor and their ceiling, and attain them
pub weighed_ends_are_bounds : WeighedEndsAreBounds
weighed_ends_are_bounds form root run every last ends order_one order_two sums are =
    let best = weighed_ends_are_the_earliest_best form run every last ends sums.some_weight are in
    let low = weighed_evaluations_are_bounds form root run ends.lower.round order_one order_two sums best.of_lower.some in
    let high = weighed_evaluations_are_bounds form root run ends.upper.round order_one order_two sums best.of_upper.some in
    let is_low : (evaluation_in form run ends.lower.round).low ≡ ends.lower.low = sym (ap (λ (e : Evaluation). e.low) best.of_lower.is) in
    let is_high : (evaluation_in form run ends.upper.round).high ≡ ends.upper.high = sym (ap (λ (e : Evaluation). e.high) best.of_upper.is) in
    record {
      lower_plan = low.plan_one;
      floor = subst (IsFloor form (lower_plan_in run ends)) is_low low.floor;
      floor_attained = subst (λ z. AttainsFloor form (lower_plan_in run ends) z
          (pure_plan form.sets_two (choices_of (reply_to form Two (lower_plan_in run ends))))) is_low low.floor_attained;
      upper_plan = high.plan_two;
      ceiling = subst (IsCeiling form (upper_plan_in run ends)) is_high high.ceiling;
      ceiling_attained = subst (λ z. AttainsCeiling form (upper_plan_in run ends) z
          (pure_plan form.sets_one (choices_of (reply_to form One (upper_plan_in run ends))))) is_high high.ceiling_attained;
    }

-- both sides without the root
without_root : (low high : ℤ) (one two root : ℕ) → 1 ≤ root → (pos (two * root) *ℤ low) ≤ℤ (pos (one * root) *ℤ high)
    → (low *ℤ pos two) ≤ℤ (high *ℤ pos one)
without_root low high one two root some le =
    *ℤ-cancel root (low *ℤ pos two) (high *ℤ pos one) some (subst (λ a. a ≤ℤ (pos root *ℤ (high *ℤ pos one))) (turned two low)
    (subst (λ b. (pos (two * root) *ℤ low) ≤ℤ b) (turned one high) le))
  where
    turned : (n : ℕ) (z : ℤ) → pos (n * root) *ℤ z ≡ pos root *ℤ (z *ℤ pos n)
    turned n z =
        ap (λ k. pos k *ℤ z) (mul_comm n root) ∙ *ℤ_assoc (pos root) (pos n) z ∙ ap (λ y. pos root *ℤ y) (*ℤ_comm (pos n) z)

-- each over what its rounds weigh, the lower end is at most the upper end
pub weighed_ends_are_in_order : WeighedEndsAreInOrder
weighed_ends_are_in_order form root run every last ends order_one order_two some sums are =
    let b = weighed_ends_are_bounds form root run every last ends order_one order_two sums are in
    without_root ends.lower.low ends.upper.high (run.weight ends.lower.round) (run.weight ends.upper.round) root some
    (floors_below form (run.weight ends.lower.round * root) (run.weight ends.upper.round * root) (lower_plan_in run ends) (upper_plan_in run ends)
    ends.lower.low ends.upper.high b.lower_plan b.upper_plan b.floor b.ceiling)

-- each over its plan's root, the two ends are apart by the total exploitability of the two plans
pub gap_of_weighed_run_is_exploitability : GapOfWeighedRunIsExploitability
gap_of_weighed_run_is_exploitability form root run every last ends order_one order_two sums are =
    let b = weighed_ends_are_bounds form root run every last ends order_one order_two sums are in
    record {
      best = ends.upper.high;
      left = ends.lower.low;
      is_best = record {
        reply = pure_plan form.sets_one (choices_of (reply_to form One (upper_plan_in run ends)));
        ceiling = b.ceiling;
        attained = b.ceiling_attained;
      };
      is_left = record {
        reply = pure_plan form.sets_two (choices_of (reply_to form Two (lower_plan_in run ends)));
        floor = b.floor;
        attained = b.floor_attained;
      };
      is = refl;
    }

-- over its root, no plan's floor is above the upper end, and no plan's ceiling below the lower one
pub weighed_ends_bound_all_plans : WeighedEndsBoundAllPlans
weighed_ends_bound_all_plans = record {
  floors = λ form root run every last ends plan_root plan_one floor order_one order_two sums are is_plan is_floor.
      let b = weighed_ends_are_bounds form root run every last ends order_one order_two sums are in
      floors_below form plan_root (run.weight ends.upper.round * root) plan_one (upper_plan_in run ends) floor ends.upper.high is_plan b.upper_plan is_floor
      b.ceiling;
  ceilings = λ form root run every last ends plan_root plan_two ceiling order_one order_two sums are is_plan is_ceiling.
      let b = weighed_ends_are_bounds form root run every last ends order_one order_two sums are in
      floors_below form (run.weight ends.lower.round * root) plan_root (lower_plan_in run ends) plan_two ends.lower.low ceiling b.lower_plan is_plan b.floor
      is_ceiling;
}

-- and the sums of plain rounds are plans
pub plain_runs_sum_plans : PlainRunsSumPlans
plain_runs_sum_plans form root order_one order_two some = record {
  some_weight = λ round some_round. some_round;
  of_one = λ round some_round. (rounds_sum_to_plans form root round order_one order_two some some_round).of_one;
  of_two = λ round some_round. (rounds_sum_to_plans form root round order_one order_two some some_round).of_two;
}
