use Rattle.std.proofs.Common.{arith}
use Rattle.xg_frac.proofs.ScanLemmas.{leading_digits-within}
use Rattle.xg_frac.proofs.literal.scan_digits.Goals as goal

pub overflow_add-result : goal.overflow_add-result
overflow_add-result c = omega (arith, c.scan_short-short.ensures.len_is, c.scan_wide-wide.ensures.len, leading_digits-within c.args.bytes.now)

pub returns-clause-short : goal.returns-clause-short
returns-clause-short c = omega (arith, c.scan_short-short.ensures.len_is, c.scan_wide-wide.ensures.len, leading_digits-within c.args.bytes.now)
