use Rattle.std.proofs.Common.{◌-◌}
use Rattle.xg_close_numbers.specs.Places.{IsFirstPlace}
use Rattle.xg_close_numbers.proofs.exact.exact_decimal.Given as goal

abbrev pub invariant-loop-places : goal.invariant-loop-places
invariant-loop-places l = IsFirstPlace l.num l.den l.number l.rest l.places

abbrev pub decreases-loop-places : goal.decreases-loop-places
decreases-loop-places l = 18 - l.places
