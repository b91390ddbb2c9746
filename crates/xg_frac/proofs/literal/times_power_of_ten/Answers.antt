use Rattle.std.proofs.Common.{arith}
use Rattle.xg_frac.proofs.ScanLemmas.{ten_to_39, ten_below}
use Rattle.xg_frac.proofs.literal.times_power_of_ten.Goals as goal

pub returns-then-exponent-gt38 : goal.returns-then-exponent-gt38
returns-then-exponent-gt38 c = omega (arith, ten_to_39 c.args.n c.args.exponent c.if-n-eq0.false c.if-exponent-gt38.true)

pub pow-requires : goal.pow-requires
pow-requires c = ten_below c.args.exponent c.if-exponent-gt38.false
