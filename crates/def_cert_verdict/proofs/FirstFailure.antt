-- The first of some tests that fails.
use Rattle.std.proofs.Common.{◌≡◌, suc, arith, take, List, [], ◌∷◌, Option, Some, None, All, refl, sym, ap, ◌∙◌}
use Rattle.std.proofs.lemmas.Option.{none-some}
use Rattle.std.proofs.lemmas.List.Elements.{All-cons, All-nil, All-head, All-tail}
use Rattle.def_cert_verdict.specs.declared.fault.TestFault.{TestFault}
use Rattle.def_cert_verdict.specs.Laws.{IsFirstFailure, TheFirstFailureDecides}
use Rattle.def_cert_verdict.specs.Verdict.{first_failing}

passes-cons : (t : Option TestFault) (ts : List (Option TestFault)) → first_failing (t ∷ ts) ≡ None
    → (t ≡ None) × (first_failing ts ≡ None)
passes-cons None ts e = (refl, e)
passes-cons (Some f) ts e = absurd (none-some f (sym e))

all_pass-cons : (t : Option TestFault) (ts : List (Option TestFault)) → t ≡ None → first_failing ts ≡ None
    → first_failing (t ∷ ts) ≡ None
all_pass-cons t ts e f = ap (λ o. first_failing (o ∷ ts)) e ∙ f

none_fails : (xs : List (Option TestFault)) → first_failing xs ≡ None → All (λ o. o ≡ None) xs
none_fails [] e = All-nil (λ o. o ≡ None)
none_fails (x ∷ xs) e = let parts = passes-cons x xs e in All-cons (λ o. o ≡ None) x xs parts.0 (none_fails xs parts.1)

all_none : (xs : List (Option TestFault)) → All (λ o. o ≡ None) xs → first_failing xs ≡ None
all_none [] h = refl
all_none (x ∷ xs) h = all_pass-cons x xs (All-head (λ o. o ≡ None) x xs h) (all_none xs (All-tail (λ o. o ≡ None) x xs h))

failure : (xs : List (Option TestFault)) (f : TestFault) → first_failing xs ≡ Some f → IsFirstFailure xs f
failure [] f e = absurd (none-some f e)
failure (None ∷ xs) f e =
    let rest = failure xs f e in
    record {
      place = suc rest.place;
      within = omega (arith, rest.within);
      fails = rest.fails;
      earlier_pass = All-cons (λ o. o ≡ None) None (take rest.place xs) refl rest.earlier_pass;
    }
failure (Some g ∷ xs) f e = record { place = 0; within = omega arith; fails = λ d. e; earlier_pass = All-nil (λ o. o ≡ None) }

-- no fault where all tests pass, else that of a failing test behind tests that pass
pub first_failure : TheFirstFailureDecides
first_failure = record { none = λ xs. (none_fails xs, all_none xs); some = failure }
