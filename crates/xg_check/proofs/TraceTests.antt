-- The tests of the trace, one line after the other.
use Rattle.std.proofs.Common.{◌≡◌, ℕ, ◌+◌, ◌-◌, ◌<◌, ◌≤◌, true, false, cond, List, [], ◌∷◌, length, get_or, drop, Option, Some, None, refl, sym, ap, ◌∙◌, arith}
use Rattle.std.proofs.lemmas.List.{drop_more, length-drop}
use Rattle.def_reply.specs.declared.TraceLine.{TraceLine}
use Rattle.def_cert_verdict.specs.declared.fault.TestFault.{TestFault}
use Rattle.def_cert_verdict.specs.declared.fault.TestFault.TheVariants.{TraceWidens}
use Rattle.def_cert_verdict.specs.Verdict.{first_failing, is_wider, trace_tests}
use Rattle.xg_check.proofs.TestLemmas.{fails_first, passes_first}

-- the tests from the line behind a place on, where the first of all lines has this number
abbrev pub tests_after : ℕ → ℕ → List TraceLine → List (Option TestFault)
tests_after first k lines = trace_tests (first + (k - 1)) (drop (k - 1) lines)

next_line : (first : ℕ) (lines : List TraceLine) (k : ℕ) (d e : TraceLine) → 1 ≤ k → k < length lines
    → tests_after first k lines
    ≡ cond (is_wider (get_or lines k d) (get_or lines (k - 1) e)) (Some (TraceWidens (first + k))) None ∷ tests_after first (k + 1) lines
next_line first lines k d e from low =
    let here : drop (k - 1) lines ≡ get_or lines (k - 1) e ∷ drop (k - 1 + 1) lines = drop_more lines (k - 1) e (omega arith) in
    let index : k - 1 + 1 ≡ k = omega arith in
    let there : drop (k - 1 + 1) lines ≡ get_or lines k d ∷ drop (k + 1) lines = ap (λ i. drop i lines) index ∙ drop_more lines k d low in
    let again : get_or lines k d ∷ drop (k + 1) lines ≡ drop (k + 1 - 1) lines = sym there ∙ ap (λ i. drop i lines) (omega arith) in
    let both = here ∙ ap (λ ls. get_or lines (k - 1) e ∷ ls) there in
    ap (trace_tests (first + (k - 1))) both
    ∙ ap (λ n. cond (is_wider (get_or lines k d) (get_or lines (k - 1) e)) (Some (TraceWidens n)) None
    ∷ trace_tests (first + (k - 1) + 1) (get_or lines k d ∷ drop (k + 1) lines)) (omega arith)
    ∙ ap (λ ls. cond (is_wider (get_or lines k d) (get_or lines (k - 1) e)) (Some (TraceWidens (first + k))) None ∷ trace_tests (first + (k - 1) + 1) ls) again
    ∙ ap (λ n. cond (is_wider (get_or lines k d) (get_or lines (k - 1) e)) (Some (TraceWidens (first + k))) None ∷ trace_tests n (drop (k + 1 - 1) lines))
    (omega arith)

-- a line that is wider than the one before it is the first fault of the tests from there on
pub line_widens : (first : ℕ) (lines : List TraceLine) (k : ℕ) (d e : TraceLine) → 1 ≤ k → k < length lines
    → is_wider (get_or lines k d) (get_or lines (k - 1) e) ≡ true
    → first_failing (tests_after first k lines) ≡ Some (TraceWidens (first + k))
line_widens first lines k d e from low wider =
    ap first_failing (next_line first lines k d e from low)
    ∙ fails_first _ _ _ (ap (λ b. cond b (Some (TraceWidens (first + k))) None) wider)

-- where a line isn't wider than the one before it, the tests of the lines behind it decide
pub line_holds : (first : ℕ) (lines : List TraceLine) (k : ℕ) (d e : TraceLine) → 1 ≤ k → k < length lines
    → is_wider (get_or lines k d) (get_or lines (k - 1) e) ≡ false
    → first_failing (tests_after first k lines) ≡ first_failing (tests_after first (k + 1) lines)
line_holds first lines k d e from low wider =
    ap first_failing (next_line first lines k d e from low)
    ∙ passes_first _ _ (ap (λ b. cond b (Some (TraceWidens (first + k))) None) wider)

no_pair : (n : ℕ) (lines : List TraceLine) → length lines ≤ 1 → trace_tests n lines ≡ []
no_pair n [] few = refl
no_pair n (a ∷ []) few = refl
no_pair n (a ∷ b ∷ lines) few = absurd (omega arith)

-- past the last line no test of the trace fails
pub no_line_left : (first : ℕ) (lines : List TraceLine) (k : ℕ) → 1 ≤ k → length lines ≤ k → first_failing (tests_after first k lines) ≡ None
no_line_left first lines k from le =
    ap first_failing (no_pair (first + (k - 1)) (drop (k - 1) lines) (omega (arith, length-drop (k - 1) lines)))
