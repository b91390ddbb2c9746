use Rattle.std.proofs.Common.{◌≡◌, pos, ◌*ℤ◌, ◌≤ℤ◌, subst, arith}
use Rattle.std.proofs.lemmas.Int.{ints}
use Rattle.def_sums.proofs.RingLaws.{*ℤ-mono_right}
use Rattle.xg_scale.proofs.range.is_less.Goals as goal

pub returns-then-den-clause-other : goal.returns-then-den-clause-other
returns-then-den-clause-other c = λ no.
    let same : c.args.a.den ≡ c.args.b.den = omega (arith, ints) in
    let order : c.args.b.num ≤ℤ c.args.a.num = omega (arith, ints, no) in
    subst (λ d. (c.args.b.num *ℤ pos c.args.a.den) ≤ℤ (c.args.a.num *ℤ pos d)) same (*ℤ-mono_right c.args.a.den c.args.b.num c.args.a.num order)
