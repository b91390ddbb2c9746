use Rattle.std.proofs.Common.{◌≡◌, ⊎_elim, inl, inr, min, false, true, refl, Some, ap, ◌∙◌, arith}
use Rattle.def_fraction.specs.Digits.{leading_digits, number_of, is_numeral}
use Rattle.xg_frac.specs.Scan.{past_all, capped}
use Rattle.xg_frac.proofs.ScanLemmas.{numeral_yes, numeral_no, leading_digits-whole}
use Rattle.xg_frac.proofs.literal.scan_numeral.Goals as goal

pub returns-then-digits-eq0 : goal.returns-then-digits-eq0
returns-then-digits-eq0 c =
    let bs = c.args.bytes.now in
    let no : is_numeral bs ≡ false = numeral_no bs (⊎_elim (λ p. inl (omega (arith, c.scan_digits-digits.ensures.len)))
    (λ p. inr (omega (arith, c.scan_digits-digits.ensures.len, p.1))) c.then-digits-eq0.either) in
    rw no refl

pub returns : goal.returns
returns c =
    let bs = c.args.bytes.now in
    let whole : leading_digits bs ≡ bs = leading_digits-whole bs (omega (arith, c.scan_digits-digits.ensures.len)) in
    let yes : is_numeral bs ≡ true = numeral_yes bs (λ e. c.if-digits-eq0.false (c.scan_digits-digits.ensures.len ∙ e))
    (omega (arith, c.scan_digits-digits.ensures.len)) in
    let number : c.scan_digits-digits.result.number ≡ min (number_of bs) past_all = c.scan_digits-digits.ensures.number ∙ ap (capped 0) whole ∙ omega arith in
    rw yes (ap Some number)
