use Rattle.std.proofs.Common.{◌≡◌, ◌+◌, ◌≤◌, length, drop}
use Rattle.def_fraction.specs.Digits.{leading_digits}
use Rattle.xg_frac.specs.Scan.{capped, past_all}
use Rattle.xg_frac.proofs.literal.scan_wide.Given as goal

abbrev pub invariant-loop-byte : goal.invariant-loop-byte
invariant-loop-byte l = record {
  counted : l.len ≡ l.byte-index;
  within : l.number ≤ past_all;
  len : l.len + length (leading_digits (drop l.byte-index l.bytes)) ≡ length (leading_digits l.fn.bytes);
  number : capped l.number (leading_digits (drop l.byte-index l.bytes)) ≡ capped l.fn.start (leading_digits l.fn.bytes);
}
