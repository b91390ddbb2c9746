use Rattle.std.proofs.Common.{arith}
use Rattle.xg_close_numbers.proofs.ExactPlaces.{next_first, none_suffices}
use Rattle.xg_close_numbers.proofs.exact.exact_decimal.Goals as goal
use Rattle.xg_close_numbers.proofs.exact.exact_decimal.Goals.{then-loop-places-test+else-rest-gt0, else-loop-places-test}

pub loop-places-preserved : goal.loop-places-preserved
loop-places-preserved c =
    next_first c.args.num c.args.den c.loop-places.number c.loop-places.rest c.loop-places.places c.requires.some c.requires.small_den
    (omega arith) (omega arith) c.loop-places.invariant

pub returns-then-rest-gt0-2-clause-none : goal.returns-then-rest-gt0-2-clause-none
returns-then-rest-gt0-2-clause-none c =
    none_suffices c.args.num c.args.den c.loop-places.number c.loop-places.rest c.loop-places.places c.loop-places.invariant
    (elim c.loop-places-test.branch [
      | then-loop-places-test+else-rest-gt0 w ↦ absurd (omega arith)
      | else-loop-places-test w ↦ omega arith
    ])
    (omega arith)
