use Rattle.std.proofs.Common.{◌≡◌, ◌+◌, ◌-◌, ◌*◌, min, true, length, get_or, drop, sym, ap, ◌∙◌, arith}
use Rattle.std.specs.Char.{is_ascii_digit}
use Rattle.def_fraction.specs.Digits.{leading_digits}
use Rattle.xg_frac.specs.Scan.{capped, past_all}
use Rattle.xg_frac.proofs.ScanLemmas.{leading_digits-drop, capped-digit, after_digits-part}
use Rattle.std.proofs.lemmas.Grind.{common_steps}
use Rattle.xg_frac.proofs.literal.scan_wide.Goals as goal

pub loop-byte-preserved : goal.loop-byte-preserved
loop-byte-preserved c =
    let bs = c.args.bytes.now in
    let i = c.loop-byte.byte-index in
    let d = get_or bs i 0 in
    let digit : is_ascii_digit d ≡ true = sym c.if-not-is_ascii_digit.ensures.value in
    let next = leading_digits-drop bs i (omega arith) digit in
    let exact : c.min-number.result ≡ min (c.loop-byte.number * 10 + (d - 48)) past_all = omega arith in
    record {
      counted = omega arith;
      within = omega arith;
      len = omega (arith, ap length next, c.loop-byte.invariant.len);
      number = capped-digit c.loop-byte.number c.min-number.result d (leading_digits (drop (i + 1) bs)) exact ∙ ap (capped c.loop-byte.number) (sym next)
          ∙ c.loop-byte.invariant.number;
    }

pub returns-clause-rest : goal.returns-clause-rest
returns-clause-rest c =
    let bs = c.args.bytes.now in
    let len : c.loop-byte.len ≡ length (leading_digits bs) = grind (arith, common_steps) in
    after_digits-part bs c.loop-byte.len len
