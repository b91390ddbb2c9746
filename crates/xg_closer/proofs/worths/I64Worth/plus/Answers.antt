use Rattle.std.proofs.Common.{rules}
use Rattle.std.proofs.lemmas.Int.{to_z-of_z, wraps}
use Rattle.std.specs.Int.{w128}
use Rattle.xg_closer.proofs.worths.I64Worth.plus.Goals as goal

pub returns : goal.returns
returns c = rw (to_z-of_z w128 c.args.value c.ranges.value) (search (rules, wraps))
