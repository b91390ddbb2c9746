-- What a list of tests decides: when all pass, and when each fault is the first.
use Rattle.std.proofs.Common.{◌≡◌, ℕ, zero, suc, ◌+◌, ◌<◌, ◌⊎◌, ◌↔◌, Bool, true, false, not, cond, List, [], ◌∷◌, ◌++◌, ℤ, ◌≤ℤ◌, int_lt, Option, Some, None}
use Rattle.std.proofs.Common.{refl, sym, ap, ◌∙◌, arith, ⊎_elim, inl, inr}
use Rattle.std.specs.Bool.{Decides}
use Rattle.std.proofs.lemmas.Int.{ints}
use Rattle.std.proofs.lemmas.Bool.{false≢true, not-true}
use Rattle.std.proofs.lemmas.Option.{none-some, same_Some}
use Rattle.def_reply.proofs.Compares.{lt_no}
use Rattle.def_cert_verdict.specs.declared.fault.TestFault.{TestFault}
use Rattle.def_cert_verdict.specs.Verdict.{first_failing, unless}
use Rattle.def_cert_verdict.specs.FaultCauses.{IsFirstNot}

-- no test of the list fails exactly where `Holds`, and a fault is the first exactly where it `Comes`
pub record TestsDecide (ts : List (Option TestFault)) (Holds : Type 0) (Comes : TestFault → Type 0) : Type 0 where
  pub none : (first_failing ts ≡ None) ↔ Holds
  pub some : (f : TestFault) → (first_failing ts ≡ Some f) ↔ Comes f

-- one test
pub TestsDecide-one : (b : Bool) (g : TestFault) (P : Type 0) → Decides b P
    → TestsDecide (unless b g ∷ []) P (λ f. (f ≡ g) × (¬ P))
TestsDecide-one true g P d = record {
  none = (λ e. d.0 refl, λ p. refl);
  some = λ f. (λ e. absurd (none-some f e), λ c. absurd (c.1 (d.0 refl)));
}
TestsDecide-one false g P d = record {
  none = (λ e. absurd (none-some g (sym e)), λ p. absurd (false≢true (d.1 p)));
  some = λ f. (λ e. (sym (same_Some g f e), λ p. false≢true (d.1 p)), λ c. ap Some (sym c.0));
}

or_else : Option TestFault → Option TestFault → Option TestFault
or_else None r = r
or_else (Some f) r = Some f

first-append : (xs ys : List (Option TestFault))
    → first_failing (xs ++ ys) ≡ or_else (first_failing xs) (first_failing ys)
unfolding or_else
first-append [] ys = refl
first-append (None ∷ xs) ys = first-append xs ys
first-append (Some f ∷ xs) ys = refl

record TestParts (o : Option TestFault) (Holds : Type 0) (Comes : TestFault → Type 0) : Type 0 where
  none : (o ≡ None) ↔ Holds
  some : (f : TestFault) → (o ≡ Some f) ↔ Comes f

together : (o r : Option TestFault) (P Q : Type 0) (F G : TestFault → Type 0) → TestParts o P F → TestParts r Q G
    → TestParts (or_else o r) (P × Q) (λ f. F f ⊎ (P × G f))
unfolding or_else
together None r P Q F G a b = record {
  none = (λ e. (a.none.0 refl, b.none.0 e), λ h. b.none.1 h.1);
  some = λ f. (λ e. inr (a.none.0 refl, (b.some f).0 e), ⊎_elim (λ c. absurd (none-some f ((a.some f).1 c))) (λ c. (b.some f).1 c.1));
}
together (Some g) r P Q F G a b = record {
  none = (λ e. absurd (none-some g (sym e)), λ h. absurd (none-some g (sym (a.none.1 h.0))));
  some = λ f. (λ e. inl ((a.some f).0 e), ⊎_elim (λ c. (a.some f).1 c) (λ c. absurd (none-some g (sym (a.none.1 c.0)))));
}

-- some tests and then others
pub TestsDecide-append : (xs ys : List (Option TestFault)) (P Q : Type 0) (F G : TestFault → Type 0)
    → TestsDecide xs P F
    → TestsDecide ys Q G
    → TestsDecide (xs ++ ys) (P × Q) (λ f. F f ⊎ (P × G f))
TestsDecide-append xs ys P Q F G a b =
    let whole = together (first_failing xs) (first_failing ys) P Q F G (record { none = a.none; some = a.some }) (record { none = b.none; some = b.some }) in
    record {
      none = (λ e. whole.none.0 (sym (first-append xs ys) ∙ e), λ h. first-append xs ys ∙ whole.none.1 h);
      some = λ f. (λ e. (whole.some f).0 (sym (first-append xs ys) ∙ e), λ c. first-append xs ys ∙ (whole.some f).1 c);
    }

-- the same in other words
pub TestsDecide-like : (ts : List (Option TestFault)) (P Q : Type 0) (F G : TestFault → Type 0) → TestsDecide ts P F
    → P ↔ Q
    → ((f : TestFault) → F f ↔ G f) → TestsDecide ts Q G
TestsDecide-like ts P Q F G d h c = record {
  none = (λ e. h.0 (d.none.0 e), λ q. d.none.1 (h.1 q));
  some = λ f. (λ e. (c f).0 ((d.some f).0 e), λ g. (d.some f).1 ((c f).1 g));
}

-- ---- a search for the first place where something doesn't hold, counted from n
-- nothing is found exactly where it holds at each place, and what is made of n + i exactly where it first fails at i
pub record Searches (X : Type 0) (made : ℕ → X) (r : Option X) (n : ℕ) (Holds : ℕ → Type 0) : Type 0 where
  pub none : (r ≡ None) ↔ ((i : ℕ) → Holds i)
  pub some : (x : X) → (r ≡ Some x) ↔ ((i : ℕ) × (x ≡ made (n + i)) × IsFirstNot Holds i)

-- nothing is found where it holds at every place
pub Searches-end : (X : Type 0) (made : ℕ → X) (n : ℕ) (Holds : ℕ → Type 0) → ((i : ℕ) → Holds i)
    → Searches X made None n Holds
Searches-end X made n Holds all = record {
  none = (λ e. all, λ h. refl);
  some = λ x. (λ e. absurd (none-some x e), λ c. absurd (c.2.fails (all c.0)));
}

from_next : (Holds : ℕ → Type 0) → Holds 0 → ((i : ℕ) → Holds (suc i)) → (i : ℕ) → Holds i
from_next Holds first rest zero = first
from_next Holds first rest (suc i) = rest i

before_next : (Holds : ℕ → Type 0) (k : ℕ) → Holds 0 → ((j : ℕ) → j < k → Holds (suc j)) → (j : ℕ) → j < suc k → Holds j
before_next Holds k first rest zero low = first
before_next Holds k first rest (suc j) low = rest j (omega arith)

-- a first failure behind the first place is one of what follows
further : (X : Type 0) (made : ℕ → X) (n : ℕ) (Holds : ℕ → Type 0) (x : X) → Holds 0 → (i : ℕ) → x ≡ made (n + i)
    → IsFirstNot Holds i
    → (j : ℕ) × (x ≡ made (n + 1 + j)) × IsFirstNot (λ l. Holds (suc l)) j
further X made n Holds x first zero e f = absurd (f.fails first)
further X made n Holds x first (suc i) e f =
    (i, e ∙ ap made (omega arith), record { fails = f.fails; earlier = λ j low. f.earlier (suc j) (omega arith) })

at_first : (X : Type 0) (made : ℕ → X) (n : ℕ) (Holds : ℕ → Type 0) (x : X) → ¬ (Holds 0) → (i : ℕ) → x ≡ made (n + i)
    → IsFirstNot Holds i → Some (made n) ≡ Some x
at_first X made n Holds x bad zero e f = ap Some (sym (e ∙ ap made (omega arith)))
at_first X made n Holds x bad (suc i) e f = absurd (bad (f.earlier 0 (omega arith)))

-- it doesn't hold here
pub Searches-stop : (X : Type 0) (made : ℕ → X) (n : ℕ) (Holds : ℕ → Type 0) → ¬ (Holds 0)
    → Searches X made (Some (made n)) n Holds
Searches-stop X made n Holds bad = record {
  none = (λ e. absurd (none-some (made n) (sym e)), λ h. absurd (bad (h 0)));
  some = λ x. (
    λ e. (0, sym (same_Some (made n) x e) ∙ ap made (omega arith), record { fails = bad; earlier = λ j low. absurd (omega arith) }),
    λ c. at_first X made n Holds x bad c.0 c.1 c.2,
  );
}

-- it holds here exactly where b is true, and else the search stops
pub Searches-step : (X : Type 0) (made : ℕ → X) (b : Bool) (r : Option X) (n : ℕ) (Holds : ℕ → Type 0)
    → Decides b (Holds 0)
    → Searches X made r (n + 1) (λ i. Holds (suc i)) → Searches X made (cond b r (Some (made n))) n Holds
Searches-step X made true r n Holds d s = record {
  none = (λ e. from_next Holds (d.0 refl) (s.none.0 e), λ h. s.none.1 (λ i. h (suc i)));
  some = λ x. (
    λ e. let c = (s.some x).0 e in (suc c.0, c.1 ∙ ap made (omega arith), record { fails = c.2.fails; earlier = before_next Holds c.0 (d.0 refl) c.2.earlier }),
    λ c. (s.some x).1 (further X made n Holds x (d.0 refl) c.0 c.1 c.2),
  );
}
Searches-step X made false r n Holds d s = Searches-stop X made n Holds (λ h. false≢true (d.1 h))

-- the same of what holds in other words
pub Searches-like : (X : Type 0) (made : ℕ → X) (r : Option X) (n : ℕ) (Holds Says : ℕ → Type 0)
    → ((i : ℕ) → Holds i ↔ Says i) → Searches X made r n Holds → Searches X made r n Says
Searches-like X made r n Holds Says like s = record {
  none = (λ e i. (like i).0 (s.none.0 e i), λ h. s.none.1 (λ i. (like i).1 (h i)));
  some = λ x. (
    λ e. let c = (s.some x).0 e in (c.0, c.1, record { fails = λ h. c.2.fails ((like c.0).1 h); earlier = λ j low. (like j).0 (c.2.earlier j low) }),
    λ c. (s.some x).1 (c.0, c.1, record { fails = λ h. c.2.fails ((like c.0).0 h); earlier = λ j low. (like j).1 (c.2.earlier j low) }),
  );
}

-- tests that search
pub first_unless : (b : Bool) (g : TestFault) (ts : List (Option TestFault))
    → first_failing (unless b g ∷ ts) ≡ cond b (first_failing ts) (Some g)
first_unless true g ts = refl
first_unless false g ts = refl

-- where b is true the first test's fault comes, else that of the tests behind it
pub first_if : (b : Bool) (g : TestFault) (ts : List (Option TestFault))
    → first_failing (cond b (Some g) None ∷ ts) ≡ cond (not b) (first_failing ts) (Some g)
first_if true g ts = refl
first_if false g ts = refl

-- tests that search pass where it holds everywhere, else the fault is of the first place where it doesn't
pub TestsDecide-search : (made : ℕ → TestFault) (ts : List (Option TestFault)) (n : ℕ) (Holds : ℕ → Type 0)
    → Searches TestFault made (first_failing ts) n Holds
    → TestsDecide ts ((i : ℕ) → Holds i) (λ f. (i : ℕ) × (f ≡ made (n + i)) × IsFirstNot Holds i)
TestsDecide-search made ts n Holds s = record { none = s.none; some = s.some }

-- ---- comparisons
less_not : (x y : ℤ) → y ≤ℤ x → false ≡ int_lt x y
less_not x y h = omega (arith, ints)

-- the test that x isn't below y tells whether y is at most x
pub not_less-Decides : (x y : ℤ) → Decides (not (int_lt x y)) (y ≤ℤ x)
not_less-Decides x y = (λ e. lt_no x y (not-true (int_lt x y) e), λ h. ap not (sym (less_not x y h)))
