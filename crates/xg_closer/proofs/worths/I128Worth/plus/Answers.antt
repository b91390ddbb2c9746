use Rattle.std.proofs.Common.{rules}
use Rattle.std.proofs.lemmas.Int.{wraps}
use Rattle.xg_closer.proofs.worths.I128Worth.plus.Goals as goal

pub returns : goal.returns
returns c = search (rules, wraps)
