-- The certificate of a run holds up.
use Rattle.std.proofs.Common.{◌≡◌, ℕ, ◌+◌, ◌-◌, ◌*◌, ◌≤◌, List, [], ◌∷◌, ◌++◌, length, slice_index, take, drop, ℤ, Some, Ok, refl, sym, ap, ◌∙◌, subst, arith}
use Rattle.std.specs.List.{AllZip}
use Rattle.std.proofs.lemmas.List.{length-take, length-drop, take-append-drop}
use Rattle.def_tree.specs.declared.Player.{Player}
use Rattle.def_tree.specs.declared.Player.TheVariants.{One, Two}
use Rattle.def_fraction.specs.Fraction.{fraction_of}
use Rattle.def_plan.specs.Form.{InformationSet, AreInOrder, player_sets}
use Rattle.def_plan.specs.Plan.{IsPlan}
use Rattle.def_plan.specs.Payoff.{leaf_sum}
use Rattle.def_plan.proofs.Places.{total_actions}
use Rattle.def_reply.specs.Reply.{best_reply_to}
use Rattle.def_reply.proofs.Optimal.{best-tight}
use Rattle.def_round.specs.Rounds.{rounds}
use Rattle.def_reply.specs.Bracket.{Evaluation, BracketEnds, ends_of, trace}
use Rattle.def_reply.specs.declared.TraceLine.{TraceLine}
use Rattle.def_reply.specs.Outcome.{Head}
use Rattle.def_run.specs.Run.{WeighedRun, SumsPlans, outcome, total_against, plain_run, evaluation, evaluations, evaluations_in, lower_plan_in, upper_plan_in}
use Rattle.def_run.proofs.RunLaws.{evaluations_are_bounds, ends_are_of_their_rounds}
use Rattle.def_run.proofs.WeighedEnds.{plain_runs_sum_plans, weighed_ends_are_the_earliest_best}
use Rattle.def_run.proofs.WeighedTraces.{weighed_trace_never_widens}
use Rattle.def_cert_verdict.specs.Certificate.{PrintedPlan, PrintedBounds, joined, printed_numbers, last_line}
use Rattle.def_plan.specs.Weighed.{WeighedGame}
use Rattle.def_cert_verdict.specs.Verdict.{head_only, bracket, verdict}
use Rattle.def_cert_verdict.specs.Laws.{HoldsAsPlan, HoldsAsReply, HoldsUp, HoldsUpBy}
use Rattle.def_cert_verdict.proofs.VerdictIsExact.{exact}
use Rattle.def_cert_verdict.proofs.LastLine.{last_is}
use Rattle.def_cert_accepted.specs.OfOutcome.{by_sets, printed_plan, certificate_of}
use Rattle.def_cert_accepted.specs.Laws.{TheCertificateOfARunIsAccepted}
use Rattle.def_cert_accepted.proofs.OfRun.{own_head, own_head-is, same_head, bounds_in, bounds_of_run, certificate_with, certificate_without}

-- ---- plans
sizes_by_sets : (hs : List InformationSet) (xs : List ℕ) → total_actions hs ≤ length xs
    → AllZip (λ h ws. length ws ≡ h.actions) hs (by_sets hs xs)
sizes_by_sets [] xs low = tt
sizes_by_sets (h ∷ hs) xs low = (omega (arith, length-take h.actions xs), sizes_by_sets hs (drop h.actions xs) (omega (arith, length-drop h.actions xs)))

joined_by_sets : (hs : List InformationSet) (xs : List ℕ) → length xs ≡ total_actions hs → joined (by_sets hs xs) ≡ xs
joined_by_sets [] [] e = refl
joined_by_sets [] (x ∷ xs) e = absurd (omega arith)
joined_by_sets (h ∷ hs) xs e =
    ap (λ (ys : List ℕ). take h.actions xs ++ ys) (joined_by_sets hs (drop h.actions xs) (omega (arith, length-drop h.actions xs)))
    ∙ take-append-drop h.actions xs

-- what is printed of a plan has its numbers
pub numbers_back : (sets : List InformationSet) (plan : List ℕ) → length plan ≡ 1 + total_actions sets
    → printed_numbers (printed_plan sets plan) ≡ plan
numbers_back sets [] e = absurd (omega arith)
numbers_back sets (x ∷ xs) e = ap (λ (ys : List ℕ). x ∷ ys) (joined_by_sets sets xs (omega arith))

-- a plan, cut by sets, holds as one of its root
pub plan_holds : (sets : List InformationSet) (root : ℕ) (plan : List ℕ) → IsPlan sets root plan
    → HoldsAsPlan sets root (printed_plan sets plan)
plan_holds sets root plan h =
    let back = numbers_back sets plan h.all_sequences in
    record {
      root_is = h.root_weight;
      sizes = sizes_by_sets sets (drop 1 plan) (omega (arith, length-drop 1 plan, h.all_sequences));
      is_plan = subst (λ (ys : List ℕ). IsPlan sets (slice_index plan 0) ys) (sym back) (subst (λ (r : ℕ). IsPlan sets r plan) (sym h.root_weight) h);
    }

-- ---- replies
-- the best reply to a plan that is printed holds, with its total over the unit times the plan's root
pub reply_holds : (game : WeighedGame) (player : Player) (plan : List ℕ) (printed : PrintedPlan) (traced : ℤ)
    → AreInOrder (player_sets game.form player) → printed_numbers printed ≡ plan
    → printed.root ≡ slice_index plan 0 → total_against game.form player plan ≡ traced
    → HoldsAsReply player (leaf_sum player game.form.leaves (printed_numbers printed)) (player_sets game.form player) (best_reply_to game.form player plan)
    traced
    (fraction_of (total_against game.form player plan) (game.unit * slice_index plan 0)) (game.unit * printed.root)
reply_holds game player plan printed traced order back root is =
    subst (λ (ys : List ℕ). HoldsAsReply player (leaf_sum player game.form.leaves ys) (player_sets game.form player) (best_reply_to game.form player plan)
    traced
    (fraction_of (total_against game.form player plan) (game.unit * slice_index plan 0)) (game.unit * printed.root)) (sym back)
    (record {
      tight = best-tight player (leaf_sum player game.form.leaves plan) (player_sets game.form player) order;
      total_is = record {
        worth_is = refl;
        traced_is = is;
        bound_is = ap (λ (r : ℕ). fraction_of (total_against game.form player plan) (game.unit * r)) (sym root);
      };
    })

-- ---- all of it
-- the bounds that are printed of a run that sums plans hold up
pub holds_in : (game : WeighedGame) (run : WeighedRun) (last every scale : ℕ) (ends : BracketEnds)
    → AreInOrder game.form.sets_one → AreInOrder game.form.sets_two → SumsPlans game.form scale run
    → ends_of (evaluations_in game.form run every last) ≡ Some ends
    → HoldsUpBy run.weight game scale (bounds_in game run last every ends)
holds_in game run last every scale ends order_one order_two sums are =
    let form = game.form in
    let es : List Evaluation = evaluations_in form run every last in
    let line : TraceLine = last_line (trace es) in
    let end = last_is es ends are in
    let best = weighed_ends_are_the_earliest_best form run every last ends sums.some_weight are in
    let one : List ℕ = lower_plan_in run ends in
    let two : List ℕ = upper_plan_in run ends in
    let is_one = sums.of_one ends.lower.round best.of_lower.some in
    let is_two = sums.of_two ends.upper.round best.of_upper.some in
    let low_round : line.low_round ≡ ends.lower.round = ap (λ (l : TraceLine). l.low_round) end.1 in
    let high_round : line.high_round ≡ ends.upper.round = ap (λ (l : TraceLine). l.high_round) end.1 in
    let total_low : total_against form Two one ≡ line.low = sym (ap (λ (l : TraceLine). l.low) end.1 ∙ ap (λ (e : Evaluation). e.low) best.of_lower.is) in
    let total_high : total_against form One two ≡ line.high = sym (ap (λ (l : TraceLine). l.high) end.1 ∙ ap (λ (e : Evaluation). e.high) best.of_upper.is) in
    record {
      plan_one = subst (λ n. HoldsAsPlan form.sets_one (run.weight n * scale) (printed_plan form.sets_one one)) (sym low_round)
          (plan_holds form.sets_one (run.weight ends.lower.round * scale) one is_one);
      plan_two = subst (λ n. HoldsAsPlan form.sets_two (run.weight n * scale) (printed_plan form.sets_two two)) (sym high_round)
          (plan_holds form.sets_two (run.weight ends.upper.round * scale) two is_two);
      reply_two = reply_holds game Two one (printed_plan form.sets_one one) line.low order_two (numbers_back form.sets_one one is_one.all_sequences) refl
          total_low;
      reply_one = reply_holds game One two (printed_plan form.sets_two two) line.high order_one (numbers_back form.sets_two two is_two.all_sequences) refl
          total_high;
      trace = λ k d within. weighed_trace_never_widens form run every last k (k + 1) d sums.some_weight (omega arith) within;
    }

holds : (game : WeighedGame) (last every scale : ℕ) (ends : BracketEnds) → AreInOrder game.form.sets_one
    → AreInOrder game.form.sets_two → 1 ≤ scale
    → ends_of (evaluations game.form scale every last) ≡ Some ends
    → HoldsUp game scale (bounds_of_run game last every scale ends)
holds game last every scale ends order_one order_two some_scale are =
    holds_in game (plain_run game.form scale) last every scale ends order_one order_two
    (plain_runs_sum_plans game.form scale order_one order_two some_scale) are

-- the printed bounds are the ends in payoff units
in_units : (game : WeighedGame) (last every scale : ℕ) (ends : BracketEnds) → AreInOrder game.form.sets_one
    → AreInOrder game.form.sets_two → 1 ≤ scale
    → ends_of (evaluations game.form scale every last) ≡ Some ends
    → let b = bounds_of_run game last every scale ends in
    (fraction_of ends.lower.low (game.unit * (ends.lower.round * scale)) ≡ b.low)
    × (fraction_of ends.upper.high (game.unit * (ends.upper.round * scale)) ≡ b.high)
in_units game last every scale ends order_one order_two some_scale are =
    let form = game.form in
    let of_rounds = ends_are_of_their_rounds form scale every last ends are in
    let low = evaluations_are_bounds form scale ends.lower.round order_one order_two some_scale of_rounds.of_lower.some in
    let high = evaluations_are_bounds form scale ends.upper.round order_one order_two some_scale of_rounds.of_upper.some in (
      ap (λ (z : ℤ). fraction_of z (game.unit * (ends.lower.round * scale))) (ap (λ (e : Evaluation). e.low) of_rounds.of_lower.is)
          ∙ ap (λ (r : ℕ). fraction_of (evaluation form scale ends.lower.round).low (game.unit * r)) (sym low.plan_one.root_weight),
      ap (λ (z : ℤ). fraction_of z (game.unit * (ends.upper.round * scale))) (ap (λ (e : Evaluation). e.high) of_rounds.of_upper.is)
          ∙ ap (λ (r : ℕ). fraction_of (evaluation form scale ends.upper.round).high (game.unit * r)) (sym high.plan_two.root_weight),
    )

some_round : (game : WeighedGame) (last every scale : ℕ) (ends : BracketEnds) → AreInOrder game.form.sets_one
    → AreInOrder game.form.sets_two → 1 ≤ scale
    → ends_of (evaluations game.form scale every last) ≡ Some ends
    → verdict game (certificate_of game.form (outcome game.form (own_head game last every scale)))
    ≡ Ok (bracket (fraction_of ends.lower.low (game.unit * (ends.lower.round * scale))) (fraction_of ends.upper.high (game.unit * (ends.upper.round * scale))))
some_round game last every scale ends order_one order_two some_scale are =
    let head = own_head game last every scale in
    let b : PrintedBounds = bounds_of_run game last every scale ends in
    let units = in_units game last every scale ends order_one order_two some_scale are in
    ap (verdict game) (certificate_with game last every scale ends are)
    ∙ (exact.with_bracket game head b (fraction_of ends.lower.low (game.unit * (ends.lower.round * scale)))
    (fraction_of ends.upper.high (game.unit * (ends.upper.round * scale)))).1
    (own_head-is game last every scale, holds game last every scale ends order_one order_two some_scale are, units.0, units.1)

no_round : (game : WeighedGame) (last every scale : ℕ) → last ≡ 0
    → verdict game (certificate_of game.form (outcome game.form (own_head game last every scale))) ≡ Ok head_only
no_round game last every scale none =
    ap (verdict game) (certificate_without game last every scale none) ∙ (exact.head_alone game (own_head game last every scale)).1
    (own_head-is game last every scale)

-- with the game's head a run's certificate passes, and shows the head alone or the ends in payoff units
pub accepted : TheCertificateOfARunIsAccepted
accepted = record {
  no_round = λ game head is none. ap (λ (g : Head). verdict game (certificate_of game.form (outcome game.form g))) (same_head game head is)
      ∙ no_round game head.rounds head.every head.scale none;
  some_round = λ game head ends order_one order_two is some_unit some_scale are.
      ap (λ (g : Head). verdict game (certificate_of game.form (outcome game.form g))) (same_head game head is)
      ∙ some_round game head.rounds head.every head.scale ends order_one order_two some_scale are;
}
