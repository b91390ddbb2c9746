-- The tests of the trace.
use Rattle.std.proofs.Common.{◌≡◌, ℕ, suc, ◌+◌, ◌↔◌, ◌||◌, Bool, true, false, not, List, [], ◌∷◌, get_or, pos, ◌*ℤ◌, int_lt, Option, refl, sym, ap, subst}
use Rattle.std.proofs.Common.{arith}
use Rattle.std.specs.Bool.{Decides}
use Rattle.std.proofs.lemmas.Bool.{false≢true}
use Rattle.def_reply.specs.Bracket.{LiesWithin}
use Rattle.def_reply.specs.declared.TraceLine.{TraceLine}
use Rattle.def_cert_verdict.specs.declared.fault.TestFault.{TestFault}
use Rattle.def_cert_verdict.specs.declared.fault.TestFault.TheVariants.{HeadDiffers, NotAPlan, ValueTooGood, ReplyNotTight, TotalDiffers, TraceWidens}
use Rattle.def_cert_verdict.specs.declared.fault.TestFault.TheVariants.{SecondDiffers}
use Rattle.def_cert_verdict.specs.Verdict.{first_failing, is_wider, trace_tests}
use Rattle.def_cert_verdict.specs.Laws.{NeverWidens}
use Rattle.def_cert_verdict.specs.FaultCauses.{IsFirstNot, IsNoWider, TraceFault}
use Rattle.def_cert_verdict.proofs.TestsDecide.{TestsDecide, TestsDecide-like, TestsDecide-search, Searches, Searches-end, Searches-step, Searches-like}
use Rattle.def_cert_verdict.proofs.TestsDecide.{first_if, not_less-Decides}

neither : (a b : Bool) (P Q : Type 0) → Decides (not a) P → Decides (not b) Q → Decides (not (a || b)) (P × Q)
neither true b P Q d e = (λ h. absurd (false≢true h), λ h. d.1 h.0)
neither false b P Q d e = (λ h. (d.0 refl, e.0 h), λ h. e.1 h.1)

wider_decided : (later earlier : TraceLine) → Decides (not (is_wider later earlier)) (LiesWithin later earlier)
wider_decided later earlier =
    let d = neither (int_lt (later.low *ℤ pos earlier.low_round) (earlier.low *ℤ pos later.low_round))
    (int_lt (earlier.high *ℤ pos later.high_round) (later.high *ℤ pos earlier.high_round)) _ _
    (not_less-Decides (later.low *ℤ pos earlier.low_round) (earlier.low *ℤ pos later.low_round))
    (not_less-Decides (earlier.high *ℤ pos later.high_round) (later.high *ℤ pos earlier.high_round)) in
    (λ e. let p = d.0 e in record { not_lower = p.0; not_higher = p.1 }, λ h. d.1 (h.not_lower, h.not_higher))

first_pair : (a b : TraceLine) (lines : List TraceLine) → Decides (not (is_wider b a)) (IsNoWider (a ∷ b ∷ lines) 0)
first_pair a b lines =
    let d = wider_decided b a in
    (λ e line low. d.0 e, λ h. d.1 (h a (omega arith)))

later_pair : (a b : TraceLine) (lines : List TraceLine) (i : ℕ)
    → IsNoWider (b ∷ lines) i ↔ IsNoWider (a ∷ b ∷ lines) (suc i)
later_pair a b lines i =
    let same : suc (i + 1) ≡ suc i + 1 = omega arith in (
      λ h line low. subst (λ n. LiesWithin (get_or (a ∷ b ∷ lines) n line) (get_or (b ∷ lines) i line)) same (h line (omega arith)),
      λ h line low. subst (λ n. LiesWithin (get_or (a ∷ b ∷ lines) n line) (get_or (b ∷ lines) i line)) (sym same) (h line (omega arith)),
    )

trace_searched : (k : ℕ) (lines : List TraceLine)
    → Searches TestFault TraceWidens (first_failing (trace_tests k lines)) (k + 1) (IsNoWider lines)
trace_searched k [] = Searches-end TestFault TraceWidens (k + 1) (IsNoWider []) (λ i line low. absurd (omega arith))
trace_searched k (a ∷ []) = Searches-end TestFault TraceWidens (k + 1) (IsNoWider (a ∷ [])) (λ i line low. absurd (omega arith))
trace_searched k (a ∷ b ∷ lines) =
    let rest : List (Option TestFault) = trace_tests (k + 1) (b ∷ lines) in
    subst (λ o. Searches TestFault TraceWidens o (k + 1) (IsNoWider (a ∷ b ∷ lines))) (sym (first_if (is_wider b a) (TraceWidens (k + 1)) rest))
    (Searches-step TestFault TraceWidens (not (is_wider b a)) (first_failing rest) (k + 1) (IsNoWider (a ∷ b ∷ lines)) (first_pair a b lines)
    (Searches-like TestFault TraceWidens (first_failing rest) (k + 1 + 1) (IsNoWider (b ∷ lines)) (λ i. IsNoWider (a ∷ b ∷ lines) (suc i))
    (later_pair a b lines)
    (trace_searched (k + 1) (b ∷ lines))))

caused : (k : ℕ) (lines : List TraceLine) (f : TestFault) → TraceFault k lines f
    → (i : ℕ) × (f ≡ TraceWidens (k + 1 + i)) × IsFirstNot (IsNoWider lines) i
caused k lines (TraceWidens line) c = (c.0, ap TraceWidens (omega (arith, c.1)), c.2)
caused k lines (HeadDiffers line) c = absurd c
caused k lines (NotAPlan p set) c = absurd c
caused k lines (ValueTooGood p set action) c = absurd c
caused k lines (ReplyNotTight p set) c = absurd c
caused k lines (TotalDiffers end) c = absurd c
caused k lines SecondDiffers c = absurd c

-- a trace's tests pass exactly where none is wider than the line before, else the fault has the first that is
pub trace_described : (k : ℕ) (lines : List TraceLine)
    → TestsDecide (trace_tests k lines) (NeverWidens lines) (TraceFault k lines)
trace_described k lines =
    TestsDecide-like (trace_tests k lines) _ (NeverWidens lines) _ (TraceFault k lines)
    (TestsDecide-search TraceWidens (trace_tests k lines) (k + 1) (IsNoWider lines) (trace_searched k lines))
    (λ h. h, λ h. h)
    (λ f. (λ c. subst (TraceFault k lines) (sym c.1) (c.0, omega arith, c.2), caused k lines f))
