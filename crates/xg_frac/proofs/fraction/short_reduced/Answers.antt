use Rattle.std.proofs.Common.{◌≡◌, ◌/◌, ◌≤◌, ◌^◌, pos, to_z, of_z, sym, ap, ◌∙◌, arith}
use Rattle.std.specs.Int.{w64}
use Rattle.std.proofs.Math.Nat.{div-le_self, div-one}
use Rattle.std.proofs.lemmas.Int.{to_z_pos, to_z-of_z}
use Rattle.def_fraction.specs.Fraction.{signed}
use Rattle.xg_frac.proofs.PartLemmas.{AreParts-from_divisor, view-from_divisor}
use Rattle.xg_frac.proofs.fraction.short_reduced.Goals as goal

-- the parts that are kept without a division, as those over the divisor 1
whole_num : (c : goal.After-with_sign)
    → to_z w64 (of_z w64 c.with_sign.result) ≡ signed c.args.negative (c.args.num / c.short_common_divisor-common.result)
whole_num c =
    to_z-of_z w64 c.with_sign.result (record { sfits = c.with_sign.type_inv }) ∙ c.with_sign.ensures
    ∙ ap (signed c.args.negative) (sym (ap (λ g. c.args.num / g) c.if-common-eq1.true ∙ div-one c.args.num))

whole_den : (c : goal.After-with_sign) → to_z w64 c.args.den ≡ pos (c.args.den / c.short_common_divisor-common.result)
whole_den c =
    to_z_pos w64 c.args.den (omega (arith, c.requires.within.1))
    ∙ ap pos (sym (ap (λ g. c.args.den / g) c.if-common-eq1.true ∙ div-one c.args.den))

pub returns-then-common-eq1 : goal.returns-then-common-eq1
returns-then-common-eq1 c =
    let common = c.short_common_divisor-common in
    view-from_divisor c.args.negative c.args.num c.args.den common.result _ _ common.ensures.value (whole_num c) (whole_den c)

kept_num : (c : goal.After-with_sign-2)
    → to_z w64 (of_z w64 c.with_sign-2.result) ≡ signed c.args.negative (c.args.num / c.short_common_divisor-common.result)
kept_num c = to_z-of_z w64 c.with_sign-2.result (record { sfits = c.with_sign-2.type_inv }) ∙ c.with_sign-2.ensures

small_den : (c : goal.After-with_sign-2) → c.args.den / c.short_common_divisor-common.result ≤ 2 ^ 62
small_den c = omega (arith, c.requires.within.1, div-le_self c.args.den c.short_common_divisor-common.result)

kept_den : (c : goal.After-with_sign-2)
    → to_z w64 (c.args.den / c.short_common_divisor-common.result) ≡ pos (c.args.den / c.short_common_divisor-common.result)
kept_den c = to_z_pos w64 _ (omega (arith, small_den c))

pub invariant_of-result-2 : goal.invariant_of-result-2
invariant_of-result-2 c =
    let common = c.short_common_divisor-common in
    let small_num : c.args.num / common.result ≤ 2 ^ 62 =
    omega (arith, c.requires.within.0, div-le_self c.args.num common.result) in
    AreParts-from_divisor c.args.negative c.args.num c.args.den common.result _ _ c.requires.from_one common.ensures.value
    (kept_num c) (kept_den c) small_num (small_den c)

pub returns : goal.returns
returns c =
    let common = c.short_common_divisor-common in
    view-from_divisor c.args.negative c.args.num c.args.den common.result _ _ common.ensures.value (kept_num c) (kept_den c)
