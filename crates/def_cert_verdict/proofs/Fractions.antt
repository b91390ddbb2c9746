-- Comparing fractions.
use Rattle.std.proofs.Common.{◌≡◌, eqb, ℕ, ℤ, ap, ◌∙◌}
use Rattle.std.specs.Bool.{Decides}
use Rattle.std.specs.Ordering.{int_eq}
use Rattle.std.proofs.lemmas.Bool.Decides.{Decides-eqb, Decides-int_eq, Decides-and, Decides-like}
use Rattle.def_fraction.specs.Fraction.{Fraction}
use Rattle.def_cert_verdict.specs.Verdict.{is_same_fraction}

-- fractions are the same where their parts are
pub same_fraction : (a b : Fraction) → Decides (is_same_fraction a b) (a ≡ b)
same_fraction a b =
    Decides-like (is_same_fraction a b) (λ p. ap (λ (n : ℤ). record { num = n; den = a.den }) p.0 ∙ ap (λ (d : ℕ). record { num = b.num; den = d }) p.1)
    (λ e. (ap (λ (f : Fraction). f.num) e, ap (λ (f : Fraction). f.den) e))
    (Decides-and (int_eq a.num b.num) (eqb a.den b.den) (Decides-int_eq a.num b.num) (Decides-eqb a.den b.den))
