use Rattle.std.proofs.Common.{◌≡◌, ◌≤◌, IsTrue, drop}
use Rattle.std.specs.Str.{all_ascii_digits}
use Rattle.xg_frac.specs.Scan.{capped, past_all}
use Rattle.xg_cert_fields.proofs.numbers.wide_number.Given as goal

abbrev pub invariant-loop-digit : goal.invariant-loop-digit
invariant-loop-digit l = record {
  within : l.number ≤ past_all;
  digits : IsTrue (all_ascii_digits (drop l.digit-index l.digits));
  number : capped l.number (drop l.digit-index l.digits) ≡ capped 0 l.fn.digits;
}
