use Rattle.std.proofs.Common.{inl, inr, arith, rules}
use Rattle.xg_close_numbers.proofs.Roundings.{next_at_place}
use Rattle.xg_close_numbers.proofs.rounding.rounded_up.Goals as goal
use Rattle.xg_close_numbers.proofs.rounding.rounded_up.Goals.{then-places-eq0, else-places-eq0+then-number-lt100, else-places-eq0+else-number-lt100}

pub loop-places-preserved : goal.loop-places-preserved
loop-places-preserved c =
    next_at_place c.args.num c.args.den c.loop-places.number c.loop-places.rest c.loop-places.places c.requires.some c.requires.small_den
    (omega arith)
    (elim c.if-places-eq0.branch [
      | then-places-eq0 w ↦ inl (omega arith)
      | else-places-eq0+then-number-lt100 w ↦ inr (omega arith)
      | else-places-eq0+else-number-lt100 w ↦ absurd (search rules)
    ])
    c.loop-places.invariant
