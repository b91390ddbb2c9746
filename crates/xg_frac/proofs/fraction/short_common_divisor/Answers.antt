use Rattle.std.proofs.Common.{◌≡◌, ℕ, sym, ap, ◌∙◌, arith}
use Rattle.def_fraction.specs.Divisors.{gcd}
use Rattle.def_fraction.proofs.DivisorLemmas.{gcd-turn, gcd-zero, gcd-positive, gcd-with_one}
use Rattle.xg_frac.proofs.PartLemmas.{gcd-swap}
use Rattle.xg_frac.proofs.fraction.short_common_divisor.Goals as goal
use Rattle.xg_frac.proofs.fraction.short_common_divisor.Goals.{then-a-b, else-a-b}

pub returns-then-b-eq1-clause-value : goal.returns-then-b-eq1-clause-value
returns-then-b-eq1-clause-value c = sym (ap (gcd c.args.a) c.if-b-eq1.true ∙ gcd-with_one c.args.a)

pub loop-y-init : goal.loop-y-init
loop-y-init c =
    let common : ℕ × ℕ → ℕ = λ p. gcd p.0 p.1 in
    elim c.if-a-b.branch [ then-a-b w ↦ ap common w.x-is ∙ gcd-swap c.args.a c.args.b | else-a-b w ↦ ap common w.x-is ]

pub loop-y-preserved : goal.loop-y-preserved
loop-y-preserved c = gcd-turn c.loop-y.x c.loop-y.y ∙ c.loop-y.invariant

pub returns-clause-value : goal.returns-clause-value
returns-clause-value c = sym (gcd-zero c.loop-y.x) ∙ ap (gcd c.loop-y.x) (sym c.loop-y-test.false) ∙ c.loop-y.invariant

pub returns-clause-positive : goal.returns-clause-positive
returns-clause-positive c = λ h.
    let value : c.loop-y.x ≡ gcd c.args.a c.args.b = returns-clause-value c in
    let some = gcd-positive c.args.a c.args.b h in
    omega arith
