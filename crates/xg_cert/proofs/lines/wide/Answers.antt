use Rattle.std.proofs.Common.{rules}
use Rattle.def_fraction.proofs.FractionLemmas.{fraction_of-lowest}
use Rattle.xg_cert.proofs.lines.wide.Goals as goal

pub returns : goal.returns
returns c = search (rules, fraction_of-lowest)
