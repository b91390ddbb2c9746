-- The first failing test of several stages.
use Rattle.std.proofs.Common.{◌≡◌, ℕ, List, ◌++◌, Option, Some, None, Result, Ok, Err, false, refl, sym, ap, ◌∙◌}
use Rattle.std.specs.Prelude.{is_some, IfOk}
use Rattle.std.proofs.Common.{append_assoc}
use Rattle.def_tree.specs.declared.Player.TheVariants.{One, Two}
use Rattle.def_cert_verdict.specs.declared.fault.TestFault.{TestFault}
use Rattle.def_cert_verdict.specs.Certificate.{PrintedBounds}
use Rattle.def_plan.specs.Weighed.{WeighedGame}
use Rattle.def_cert_verdict.specs.Verdict.{bounds_tests, first_failing, trace_tests}
use Rattle.xg_check.specs.Parts.{tests_of_plan, tests_of_plans, tests_of_replies, tests_of_reply}
use Rattle.xg_check.proofs.TestLemmas.{front_passes}

-- what isn't some value is none
pub no_value : {X : Type 0} (o : Option X) → is_some o ≡ false → o ≡ None
no_value None e = refl
no_value (Some x) e = absurd cc

-- the first stage decides, or the rest does
pub rest_decides : (found : Option TestFault) (xs ys : List (Option TestFault)) → found ≡ first_failing xs
    → is_some found ≡ false → first_failing ys ≡ first_failing (xs ++ ys)
rest_decides found xs ys e none = sym (front_passes found xs ys e none)

-- all below the head: both plans, both replies, the trace
pub bounds_parts : (game : WeighedGame) (first scale : ℕ) (b : PrintedBounds)
    → tests_of_plans game scale b ++ (tests_of_replies game b ++ trace_tests first b.trace)
    ≡ bounds_tests game first scale b
bounds_parts game first scale b =
    let lines = trace_tests first b.trace in
    append_assoc (tests_of_plan One game scale b) (tests_of_plan Two game scale b) (tests_of_replies game b ++ lines)
    ∙ ap (λ ts. tests_of_plan One game scale b ++ (tests_of_plan Two game scale b ++ ts))
    (append_assoc (tests_of_reply Two game b) (tests_of_reply One game b) lines)

-- the same fault, memory apart
pub if_ok_same : {E : Type 0} (r : Result (Option TestFault) E) (a b : Option TestFault) → a ≡ b → IfOk r (λ f. f ≡ a)
    → IfOk r (λ f. f ≡ b)
if_ok_same (Ok f) a b e h = h ∙ e
if_ok_same (Err x) a b e h = h
