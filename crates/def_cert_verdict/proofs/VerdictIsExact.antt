-- All tests: what is accepted, and when each fault comes.
use Rattle.std.proofs.Common.{◌≡◌, ℕ, ◌*◌, ◌⊎◌, ℤ, Option, Some, None, Ok, Err, refl, sym, ap, ◌∙◌, subst}
use Rattle.std.specs.Prelude.{Result}
use Rattle.std.proofs.lemmas.Option.{none-some}
use Rattle.def_tree.specs.declared.Player.TheVariants.{One, Two}
use Rattle.def_fraction.specs.Fraction.{Fraction}
use Rattle.def_plan.specs.Payoff.{leaf_sum}
use Rattle.def_cert_verdict.specs.declared.fault.TestFault.{TestFault}
use Rattle.def_cert_verdict.specs.Certificate.{PrintedBounds, Certificate, printed_numbers, last_line}
use Rattle.def_plan.specs.Weighed.{WeighedGame}
use Rattle.def_cert_verdict.specs.Verdict.{Verdict, head_only, bracket, first_failing, head_tests, plan_tests, whole_reply_tests, trace_tests, first_trace_line}
use Rattle.def_cert_verdict.specs.Verdict.{bounds_tests, tests_below_head, tests, shown_by, decided_by}
use Rattle.def_cert_verdict.specs.Laws.{IsHeadOf, HoldsUp, AcceptanceIsExact, with_bounds, without_bounds}
use Rattle.def_cert_verdict.specs.FaultCauses.{HeadFault, BoundsFault, FaultBelowHead, EachFaultHasItsCause}
use Rattle.def_cert_verdict.proofs.TestsDecide.{TestsDecide, TestsDecide-append, TestsDecide-like}
use Rattle.def_cert_verdict.proofs.Heads.{head_described}
use Rattle.def_cert_verdict.proofs.Plans.{plan_described}
use Rattle.def_cert_verdict.proofs.Replies.{reply_described}
use Rattle.def_cert_verdict.proofs.Traces.{trace_described}

bounds_described : (game : WeighedGame) (first scale : ℕ) (b : PrintedBounds)
    → TestsDecide (bounds_tests game first scale b) (HoldsUp game scale b) (BoundsFault game first scale b)
bounds_described game first scale b =
    let form = game.form in
    let last = last_line b.trace in
    let sums_two : ℕ → ℤ = leaf_sum Two form.leaves (printed_numbers b.plan_one) in
    let sums_one : ℕ → ℤ = leaf_sum One form.leaves (printed_numbers b.plan_two) in
    TestsDecide-like (bounds_tests game first scale b) _ (HoldsUp game scale b) _ (BoundsFault game first scale b)
    (TestsDecide-append (plan_tests One form.sets_one (last.low_round * scale) b.plan_one) _ _ _ _ _
    (plan_described One form.sets_one (last.low_round * scale) b.plan_one)
    (TestsDecide-append (plan_tests Two form.sets_two (last.high_round * scale) b.plan_two) _ _ _ _ _
    (plan_described Two form.sets_two (last.high_round * scale) b.plan_two)
    (TestsDecide-append (whole_reply_tests Two sums_two form.sets_two b.reply_two last.low b.low (game.unit * b.plan_one.root)) _ _ _ _ _
    (reply_described Two sums_two form.sets_two b.reply_two last.low b.low (game.unit * b.plan_one.root))
    (TestsDecide-append (whole_reply_tests One sums_one form.sets_one b.reply_one last.high b.high (game.unit * b.plan_two.root)) (trace_tests first b.trace) _
    _ _ _
    (reply_described One sums_one form.sets_one b.reply_one last.high b.high (game.unit * b.plan_two.root)) (trace_described first b.trace))))) (
      λ h. record { plan_one = h.0; plan_two = h.1.0; reply_two = h.1.1.0; reply_one = h.1.1.1.0; trace = h.1.1.1.1 },
      λ h. (h.plan_one, (h.plan_two, (h.reply_two, (h.reply_one, h.trace)))),
    )
    (λ f. (λ c. c, λ c. c))

-- bounds hold up where there are any
abbrev pub BoundsHoldUp : WeighedGame → ℕ → Option PrintedBounds → Type 0
BoundsHoldUp game scale None = Unit {0}
BoundsHoldUp game scale (Some b) = HoldsUp game scale b

-- the tests behind the head pass exactly where the bounds hold up, if there are any, and each fault has its cause
pub below_described : (game : WeighedGame) (first scale : ℕ) (bounds : Option PrintedBounds)
    → TestsDecide (tests_below_head game first scale bounds) (BoundsHoldUp game scale bounds) (FaultBelowHead game first scale bounds)
below_described game first scale None = record { none = (λ e. tt, λ h. refl); some = λ f. (λ e. none-some f e, λ c. absurd c) }
below_described game first scale (Some b) = bounds_described game first scale b

whole : (game : WeighedGame) (c : Certificate)
    → TestsDecide (tests game c) (IsHeadOf game c.head × BoundsHoldUp game c.head.scale c.bounds)
    (λ f. HeadFault game c.head f ⊎ (IsHeadOf game c.head × FaultBelowHead game first_trace_line c.head.scale c.bounds f))
whole game c =
    TestsDecide-append (head_tests game c.head) (tests_below_head game first_trace_line c.head.scale c.bounds) _ _ _ _ (head_described game c.head)
    (below_described game first_trace_line c.head.scale c.bounds)

-- ---- from tests to the verdict
Is_ok : Result Verdict TestFault → Type 0
Is_ok (Ok v) = Unit {0}
Is_ok (Err f) = ⊥

ok_err : (v : Verdict) (f : TestFault) → Ok v ≡ Err f → ⊥
unfolding Is_ok
ok_err v f e = subst Is_ok e tt

fault_or : TestFault → Result Verdict TestFault → TestFault
fault_or d (Ok v) = d
fault_or d (Err f) = f

verdict_or : Verdict → Result Verdict TestFault → Verdict
verdict_or d (Ok v) = v
verdict_or d (Err f) = d

refused_by : (bounds : Option PrintedBounds) (o : Option TestFault) (f : TestFault) → decided_by bounds o ≡ Err f
    → o ≡ Some f
unfolding fault_or
refused_by bounds None f e = absurd (ok_err (shown_by bounds) f e)
refused_by bounds (Some g) f e = ap Some (ap (fault_or g) e)

accepted_by : (bounds : Option PrintedBounds) (o : Option TestFault) (v : Verdict) → decided_by bounds o ≡ Ok v
    → (o ≡ None) × (v ≡ shown_by bounds)
unfolding verdict_or
accepted_by bounds None v e = (refl, sym (ap (verdict_or v) e))
accepted_by bounds (Some g) v e = absurd (ok_err v g (sym e))

-- the verdict is a fault exactly where it comes in the head or, behind the game's head, in the bounds
pub causes : EachFaultHasItsCause
causes game c fault =
    let all = (whole game c).some fault in
    (λ e. all.0 (refused_by c.bounds (first_failing (tests game c)) fault e), λ why. ap (decided_by c.bounds) (all.1 why))

-- ---- acceptance
Is_head : Verdict → Type 0
Is_head head_only = Unit {0}
Is_head (bracket low high) = ⊥

head_bracket : (low high : Fraction) → head_only ≡ bracket low high → ⊥
unfolding Is_head
head_bracket low high e = subst Is_head e tt

low_or : Fraction → Verdict → Fraction
low_or d head_only = d
low_or d (bracket low high) = low

high_or : Fraction → Verdict → Fraction
high_or d head_only = d
high_or d (bracket low high) = high

same_low : (low high low' high' : Fraction) → bracket low high ≡ bracket low' high' → low ≡ low'
unfolding low_or
same_low low high low' high' e = ap (low_or low) e

same_high : (low high low' high' : Fraction) → bracket low high ≡ bracket low' high' → high ≡ high'
unfolding high_or
same_high low high low' high' e = ap (high_or high) e

-- what is accepted has the game's head and bounds that hold up, if any; all else is refused
pub exact : AcceptanceIsExact
exact = record {
  head_alone = λ game head. let c = without_bounds head in (
    λ e. ((whole game c).none.0 (accepted_by c.bounds (first_failing (tests game c)) head_only e).0).0,
    λ h. ap (decided_by c.bounds) ((whole game c).none.1 (h, tt)),
  );
  no_bracket = λ game head low high e. let c = without_bounds head in
      head_bracket low high (sym (accepted_by c.bounds (first_failing (tests game c)) (bracket low high) e).1);
  with_bracket = λ game head b low high. let c = with_bounds head b in (
    λ e. let a = accepted_by c.bounds (first_failing (tests game c)) (bracket low high) e in
        let h = (whole game c).none.0 a.0 in
        (h.0, h.1, same_low low high b.low b.high a.1, same_high low high b.low b.high a.1),
    λ h. ap (decided_by c.bounds) ((whole game c).none.1 (h.0, h.1)) ∙ ap (λ (l : Fraction). Ok (bracket l b.high)) (sym h.2)
        ∙ ap (λ (k : Fraction). Ok (bracket low k)) (sym h.3),
  );
  not_head_alone = λ game head b e. let c = with_bounds head b in
      head_bracket b.low b.high (accepted_by c.bounds (first_failing (tests game c)) head_only e).1;
}
