-- Texts that are written in pieces.
use Rattle.std.proofs.Common.{◌≡◌, ℕ, Bool, true, false, cond, eqb, List, [], ◌∷◌, ◌++◌, Option, ℤ, pos, refl, sym, ap, ◌∙◌, subst}
use Rattle.std.specs.Fmt.{decimal}
use Rattle.std.specs.Io.KnownBytes.{append_known}
use Rattle.std.proofs.lemmas.Bool.{ne_eqb}
use Rattle.def_outside.specs.Sinks.{AppendsPrefix}
use Rattle.xg_io.proofs.Pieces.{prefix_first, prefix_then}
use Rattle.def_fraction.specs.Fraction.{Fraction}
use Rattle.def_fraction.specs.Text.{int_text, fraction_text}

-- ---- a fraction

front_if : (before now : Option (List ℕ)) (xs ys : List ℕ) (one : Bool) → AppendsPrefix before now xs
    → AppendsPrefix before now (cond one xs (xs ++ ys))
front_if before now xs ys true p = p
front_if before now xs ys false p = prefix_first before now xs ys p

-- the numerator failed
pub num_failed : (before now : Option (List ℕ)) (f : Fraction) (num : ℤ) → num ≡ f.num
    → AppendsPrefix before now (int_text num) → AppendsPrefix before now (fraction_text f)
num_failed before now f num e p =
    front_if before now (int_text f.num) (47 ∷ decimal f.den) (eqb f.den 1) (subst (λ (z : ℤ). AppendsPrefix before now (int_text z)) e p)

text_with_bar : (f : Fraction) → (f.den ≡ 1 → ⊥) → fraction_text f ≡ int_text f.num ++ 47 ∷ decimal f.den
text_with_bar f h = rw (ne_eqb f.den 1 h) refl

-- the bar failed
pub bar_failed : (before middle now : Option (List ℕ)) (f : Fraction) (num : ℤ) → (f.den ≡ 1 → ⊥) → num ≡ f.num
    → middle ≡ append_known before (int_text num) → AppendsPrefix middle now (47 ∷ [])
    → AppendsPrefix before now (fraction_text f)
bar_failed before middle now f num h e first p =
    subst (λ (text : List ℕ). AppendsPrefix before now text) (sym (text_with_bar f h))
    (prefix_then before middle now (int_text f.num) (47 ∷ decimal f.den) (first ∙ ap (λ z. append_known before (int_text z)) e)
    (prefix_first middle now (47 ∷ []) (decimal f.den) p))

-- the denominator failed
pub den_failed : (before middle bar now : Option (List ℕ)) (f : Fraction) (num den : ℤ) → (f.den ≡ 1 → ⊥) → num ≡ f.num
    → den ≡ pos f.den → middle ≡ append_known before (int_text num)
    → bar ≡ append_known middle (47 ∷ []) → AppendsPrefix bar now (int_text den)
    → AppendsPrefix before now (fraction_text f)
den_failed before middle bar now f num den h e d first second p =
    subst (λ (text : List ℕ). AppendsPrefix before now text) (sym (text_with_bar f h))
    (prefix_then before middle now (int_text f.num) (47 ∷ decimal f.den) (first ∙ ap (λ z. append_known before (int_text z)) e)
    (prefix_then middle bar now (47 ∷ []) (decimal f.den) second (subst (λ (z : ℤ). AppendsPrefix bar now (int_text z)) d p)))
