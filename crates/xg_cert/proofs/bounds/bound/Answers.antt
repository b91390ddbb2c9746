use Rattle.std.proofs.Common.{arith}
use Rattle.std.proofs.lemmas.Int.{ints}
use Rattle.xg_cert.proofs.bounds.bound.Goals as goal

pub ratio-requires-clause-from_one : goal.ratio-requires-clause-from_one
ratio-requires-clause-from_one c = omega (arith, ints, c.scale_of.ensures.value, c.scale_of.ensures.from_one)
