use Rattle.std.proofs.Common.{ℕ, ◌≤◌, subst, sym}
use Rattle.def_fraction.specs.Fraction.{most}
use Rattle.xg_scale.proofs.FractionParts.{unit_stays}
use Rattle.xg_scale.proofs.leaf.unit_with.Goals as goal

pub returns-then-divides : goal.returns-then-divides
returns-then-divides c =
    let positive = c.requires.from_one in
    let same = unit_stays c.args.denominator c.args.so_far positive.0 positive.1 (c.divides.ensures c.if-divides.true) in
    (subst (λ (n : ℕ). n ≤ most) (sym same) c.requires.within.1, sym same)
