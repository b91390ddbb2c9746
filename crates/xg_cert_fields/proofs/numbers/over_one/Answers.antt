use Rattle.std.proofs.Common.{◌∙◌, ap}
use Rattle.std.proofs.lemmas.Int.{to_z-of_z}
use mir.Syntax.{w128}
use Rattle.def_fraction.specs.Fraction.{fraction_of}
use Rattle.xg_frac.proofs.PartLemmas.{fraction_of-whole}
use Rattle.xg_cert_fields.proofs.numbers.over_one.Goals as goal

pub returns : goal.returns
returns c = c.ratio.ensures ∙ ap (λ n. fraction_of n 1) (to_z-of_z w128 c.args.num c.ranges.num) ∙ fraction_of-whole c.args.num
