use Rattle.std.proofs.Common.{◌≡◌, ◌/◌, ◌≤◌, ◌<◌, ◌^◌, ℕ, pos, to_z, of_z, ap, ◌∙◌, inl, inr, ⊎_elim, subst, true, arith}
use Rattle.std.specs.Int.{w64}
use Rattle.std.proofs.lemmas.Int.{to_z_pos, to_z-of_z}
use Rattle.def_fraction.specs.Fraction.{Fraction, fits, signed}
use Rattle.xg_frac.proofs.PartLemmas.{AreParts-from_divisor, view-from_divisor, over_limit}
use Rattle.xg_frac.proofs.fraction.long_reduced.Goals as goal

kept_num : (c : goal.After-with_sign)
    → to_z w64 (of_z w64 c.with_sign.result)
    ≡ signed c.args.negative (c.args.num / c.greatest_common_divisor-common.result)
kept_num c =
    to_z-of_z w64 c.with_sign.result (record { sfits = c.with_sign.type_inv }) ∙ c.with_sign.ensures
    ∙ ap (signed c.args.negative) c.quotient-num.ensures

kept_den : (c : goal.After-with_sign)
    → to_z w64 c.quotient-den.result ≡ pos (c.args.den / c.greatest_common_divisor-common.result)
kept_den c = to_z_pos w64 _ (omega arith) ∙ ap pos c.quotient-den.ensures

pub returns-then-num-gt-MOST_PART : goal.returns-then-num-gt-MOST_PART
returns-then-num-gt-MOST_PART c =
    let past : ℕ → Type 0 = λ n. 2 ^ 62 < n in
    over_limit c.args.negative c.args.num c.args.den c.greatest_common_divisor-common.result c.greatest_common_divisor-common.ensures.value
    (⊎_elim (λ p. inl (subst past c.quotient-num.ensures p)) (λ p. inr (subst past c.quotient-den.ensures p.1)) c.then-num-gt-MOST_PART.either)

pub invariant_of-result : goal.invariant_of-result
invariant_of-result c =
    let within : ℕ → Type 0 = λ n. n ≤ 2 ^ 62 in
    AreParts-from_divisor c.args.negative c.args.num c.args.den c.greatest_common_divisor-common.result _ _ c.requires
    c.greatest_common_divisor-common.ensures.value (kept_num c) (kept_den c)
    (subst within c.quotient-num.ensures c.if-num-gt-MOST_PART.false) (subst within c.quotient-den.ensures c.if-den-gt-MOST_PART.false)

pub returns : goal.returns
returns c =
    let parts = invariant_of-result c in
    let same = view-from_divisor c.args.negative c.args.num c.args.den c.greatest_common_divisor-common.result _ _
    c.greatest_common_divisor-common.ensures.value (kept_num c) (kept_den c) in
    (subst (λ (f : Fraction). fits f ≡ true) same parts.small, same)
