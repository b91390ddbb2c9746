use Rattle.std.proofs.Common.{◌≡◌, ◌/◌, pos, to_z, of_z, ◌∙◌, arith}
use Rattle.std.specs.Int.{w128}
use Rattle.std.proofs.lemmas.Int.{to_z_pos, to_z-of_z}
use Rattle.def_fraction.specs.Fraction.{signed}
use Rattle.xg_frac.proofs.PartLemmas.{view-from_divisor}
use Rattle.xg_frac.proofs.WideLemmas.{AreWideParts-from_divisor, quotient-le}
use Rattle.xg_frac.proofs.wide.of_sizes.Goals as goal

kept_num : (c : goal.After-with_wide_sign)
    → to_z w128 (of_z w128 c.with_wide_sign.result)
    ≡ signed c.args.negative (c.args.num / c.greatest_common_divisor-common.result)
kept_num c = to_z-of_z w128 c.with_wide_sign.result (record { sfits = c.with_wide_sign.type_inv }) ∙ c.with_wide_sign.ensures

kept_den : (c : goal.After-with_wide_sign)
    → to_z w128 (c.args.den / c.greatest_common_divisor-common.result)
    ≡ pos (c.args.den / c.greatest_common_divisor-common.result)
kept_den c = to_z_pos w128 _ (omega (
  arith,
  c.requires.den,
  quotient-le c.args.den c.greatest_common_divisor-common.result
      (c.greatest_common_divisor-common.ensures.positive c.requires.from_one),
))

pub invariant_of-result : goal.invariant_of-result
invariant_of-result c =
    AreWideParts-from_divisor c.args.negative c.args.num c.args.den c.greatest_common_divisor-common.result _ _ c.requires.from_one c.requires.num
    c.requires.den
    c.greatest_common_divisor-common.ensures.value (kept_num c) (kept_den c)

pub returns : goal.returns
returns c =
    view-from_divisor c.args.negative c.args.num c.args.den c.greatest_common_divisor-common.result _ _ c.greatest_common_divisor-common.ensures.value
    (kept_num c) (kept_den c)
