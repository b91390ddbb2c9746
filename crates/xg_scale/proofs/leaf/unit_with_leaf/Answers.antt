use Rattle.std.proofs.Common.{◌≡◌, ℕ, ◌≤◌, arith, subst, sym}
use Rattle.def_fraction.specs.Divisors.{lcm}
use Rattle.def_fraction.specs.Fraction.{most}
use Rattle.def_game_scale.proofs.Units.{lcm-positive}
use Rattle.xg_scale.proofs.FractionParts.{lcm_above}
use Rattle.xg_scale.proofs.leaf.unit_with_leaf.Goals as goal

pub returns-in_default : goal.returns-in_default
returns-in_default c within =
    let sum : ℕ = c.denominator.result in
    let own : ℕ = c.denominator-own.result in
    let exact : lcm c.args.expected.den (lcm c.args.sum.den c.args.so_far) ≡ lcm own (lcm sum c.args.so_far) =
    λ i. lcm (sym c.denominator-own.ensures.value i) (lcm (sym c.denominator.ensures.value i) c.args.so_far) in
    let above : lcm sum c.args.so_far ≤ lcm own (lcm sum c.args.so_far) = lcm_above own (lcm sum c.args.so_far) c.denominator-own.ensures.positive
    (lcm-positive sum c.args.so_far c.denominator.ensures.positive c.requires.from_one) in
    let small : lcm own (lcm sum c.args.so_far) ≤ most = subst (λ n. n ≤ most) exact within in
    c.in_default.ensures (omega (arith, above, small))

pub unit_with-requires-2-clause-from_one : goal.unit_with-requires-2-clause-from_one
unit_with-requires-2-clause-from_one c = (
  c.denominator-own.ensures.positive,
  subst (λ n. 1 ≤ n) (sym c.in-Ok.ensures.1)
      (lcm-positive c.denominator.result c.args.so_far c.denominator.ensures.positive c.requires.from_one),
)
