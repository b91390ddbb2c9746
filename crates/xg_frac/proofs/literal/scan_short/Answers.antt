use Rattle.std.proofs.Common.{◌≡◌, ◌+◌, ◌-◌, ◌*◌, min, true, length, get_or, drop, sym, ap, ◌∙◌, arith}
use Rattle.std.specs.Char.{is_ascii_digit}
use Rattle.def_fraction.specs.Digits.{leading_digits}
use Rattle.def_fraction.proofs.LiteralLemmas.{digit_range}
use Rattle.xg_frac.specs.Scan.{capped, past_all}
use Rattle.xg_frac.proofs.ScanLemmas.{leading_digits-drop, after_digits-drop, capped-digit}
use Rattle.xg_frac.proofs.literal.scan_short.Goals as goal

pub loop-byte-preserved : goal.loop-byte-preserved
loop-byte-preserved c =
    let bs = c.args.bytes.now in
    let i = c.loop-byte.byte-index in
    let d = get_or bs i 0 in
    let number = c.loop-byte.number in
    let part = c.loop-byte.invariant.1 in
    let digit : is_ascii_digit d ≡ true = sym c.if-not-is_ascii_digit.ensures.value in
    let range = digit_range d digit in
    let next = leading_digits-drop bs i (omega arith) digit in
    let exact : number * 10 + (d - 48) ≡ min (number * 10 + (d - 48)) past_all = omega (arith, range) in (
      omega arith,
      record {
        within = omega (arith, range);
        number_is = capped-digit number (number * 10 + (d - 48)) d (leading_digits (drop (i + 1) bs)) exact ∙ ap (capped number) (sym next) ∙ part.number_is;
        len_is = omega (arith, ap length next, part.len_is);
        after_is = sym (after_digits-drop bs i (omega arith) digit) ∙ part.after_is;
      },
    )
