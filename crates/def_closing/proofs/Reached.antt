-- The width by the sets that one plan reaches.
use Rattle.std.proofs.Common.{◌≡◌, ℕ, ◌*◌, List, [], ◌∷◌, slice_index, All, arith, ap}
use Rattle.std.specs.Prelude.{ℤ, pos, ◌+ℤ◌, ◌*ℤ◌, ◌≤ℤ◌}
use Rattle.std.proofs.lemmas.Int.{ints}
use Rattle.std.proofs.lemmas.List.Elements.{All-head, All-tail}
use Rattle.def_sums.specs.Sum.{sum_over, nat_sum_over}
use Rattle.def_sums.proofs.RingLaws.{one-*ℤ}
use Rattle.def_tree.specs.declared.Player.TheVariants.{One, Two}
use Rattle.def_plan.specs.Form.{InformationSet, PlacedSet, placed, sequences_of, sequence_count, AreInOrder}
use Rattle.def_plan.specs.Plan.{IsPlan, AddsUp}
use Rattle.def_plan.specs.Payoff.{gain}
use Rattle.def_plan.proofs.Regroup.{regroup}
use Rattle.def_reply.proofs.BoundLaws.{best_optimal}
use Rattle.def_round.specs.Play.{regret_of}
use Rattle.def_round.specs.Rounds.{Standing, rounds}
use Rattle.def_run.specs.Run.{evaluation, plain_run}
use Rattle.def_run.proofs.RunLaws.{evaluations_are_bounds}
use Rattle.def_closing.specs.Width.{regret_bound, bounds_after, most_reached, reached_width}
use Rattle.def_closing.specs.Laws.{ReachedWidth}
use Rattle.def_plan.proofs.Duality.{at_sets}
use Rattle.def_closing.proofs.Identity.{no_regret_of_empty}
use Rattle.def_closing.proofs.Paid.{at_set_gain}
use Rattle.def_closing.proofs.SetBound.{natural-above}
use Rattle.def_closing.proofs.Closing.{stands_within, all_regrets}
use Rattle.def_closing.proofs.Ends.{ends_close_in}

at_sets_reached : (r : ℕ → ℤ) (x : List ℕ) (bound : PlacedSet → ℕ) (hs : List PlacedSet) → All (AddsUp x) hs
    → All (λ h. All (λ s. r s ≤ℤ pos (bound h)) (sequences_of h)) hs
    → at_sets r x hs ≤ℤ sum_over (λ h. pos (bound h) *ℤ pos (slice_index x h.before)) hs
at_sets_reached r x bound [] sums le = omega (arith, ints)
at_sets_reached r x bound (g ∷ gs) sums le =
    let here = at_set_gain r x (bound g) (sequences_of g) (All-head (λ h. All (λ s. r s ≤ℤ pos (bound h)) (sequences_of h)) g gs le) in
    let adds : bound g * nat_sum_over (λ s. slice_index x s) (sequences_of g) ≡ bound g * slice_index x g.before =
    ap (λ n. bound g * n) (All-head (AddsUp x) g gs sums) in
    omega (
      arith,
      ints,
      here,
      adds,
      at_sets_reached r x bound gs (All-tail (AddsUp x) g gs sums)
          (All-tail (λ h. All (λ s. r s ≤ℤ pos (bound h)) (sequences_of h)) g gs le),
    )

regrets_gain_reached : (sets : List InformationSet) (regrets : List ℤ) (x : List ℕ) (bound : PlacedSet → ℕ) → AreInOrder sets
    → IsPlan sets 1 x → regret_of regrets 0 ≡ pos 0
    → All (λ h. All (λ s. regret_of regrets s ≤ℤ pos (bound h)) (sequences_of h)) (placed sets)
    → gain (regret_of regrets) sets x ≤ℤ most_reached bound sets
regrets_gain_reached sets regrets x bound order plan none le =
    let sums : ℕ → ℤ = bounds_after bound (placed sets) in
    let together : gain sums sets x ≡ sum_over (λ h. pos (bound h) *ℤ pos (slice_index x h.before)) (placed sets) =
    regroup (placed sets) (λ h. h.before) (λ h. pos (bound h)) x (sequence_count sets) plan.all_sequences in
    let best = best_optimal.bound One sums sets 1 x order plan in
    omega (
      arith,
      ints,
      no_regret_of_empty regrets sets x none,
      at_sets_reached (regret_of regrets) x bound (placed sets) plan.each_set le,
      together,
      best,
      one-*ℤ (most_reached bound sets),
    )

pub reached_width_is_kept : ReachedWidth
reached_width_is_kept form root every last spread_one spread_two ends order some some_round are_one are_two are =
    let standing : Standing = rounds form root last in
    let stands = stands_within form root last spread_one spread_two (order One) (order Two) some are_one are_two last (omega arith) in
    let bounds = evaluations_are_bounds form root last (order One) (order Two) some some_round in
    let reply_one = bounds.ceiling_attained in
    let reply_two = bounds.floor_attained in
    let most_one : ℤ = most_reached (regret_bound last root spread_one) form.sets_one in
    let most_two : ℤ = most_reached (regret_bound last root spread_two) form.sets_two in
    let one =
    regrets_gain_reached form.sets_one standing.regrets_one _ (regret_bound last root spread_one) (order One) reply_one.is_plan stands.none_one
    (all_regrets root last spread_one form.sets_one standing.regrets_one stands.within_one) in
    let two =
    regrets_gain_reached form.sets_two standing.regrets_two _ (regret_bound last root spread_two) (order Two) reply_two.is_plan stands.none_two
    (all_regrets root last spread_two form.sets_two standing.regrets_two stands.within_two) in
    let paid = stands.paid _ _ reply_one.is_plan reply_two.is_plan in
    let close : (evaluation form root last).high ≤ℤ ((evaluation form root last).low +ℤ pos (reached_width form root spread_one spread_two last)) =
    omega (arith, ints, one, two, paid, reply_one.pays, reply_two.pays, natural-above (most_one +ℤ most_two)) in
    ends_close_in form (plain_run form root) every last (reached_width form root spread_one spread_two last) ends (λ round one. one) some_round are close
