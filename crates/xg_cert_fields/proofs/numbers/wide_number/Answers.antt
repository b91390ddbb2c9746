use Rattle.std.proofs.Common.{◌≡◌, ◌+◌, ◌-◌, ◌*◌, ◌∙◌, ap, arith, drop, get_or, min, sym}
use Rattle.def_fraction.proofs.LiteralLemmas.{digit_range}
use Rattle.xg_frac.specs.Scan.{capped, past_all}
use Rattle.xg_frac.proofs.ScanLemmas.{capped-digit}
use Rattle.xg_cert_fields.proofs.NumberLemmas.{next_digit}
use Rattle.xg_cert_fields.proofs.numbers.wide_number.Goals as goal

pub loop-digit-preserved : goal.loop-digit-preserved
loop-digit-preserved c =
    let bytes = c.args.digits.now in
    let i = c.loop-digit.digit-index in
    let digit = get_or bytes i 0 in
    let next = next_digit bytes i (omega arith) c.loop-digit.invariant.digits in
    let range = digit_range digit next.digit in
    let exact : c.min-number.result ≡ min (c.loop-digit.number * 10 + (digit - 48)) past_all = omega (arith, range) in
    record {
      within = omega arith;
      digits = next.more;
      number = capped-digit c.loop-digit.number c.min-number.result digit (drop (i + 1) bytes) exact ∙ ap (capped c.loop-digit.number) (sym next.parts)
          ∙ c.loop-digit.invariant.number;
    }
