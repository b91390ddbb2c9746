use Rattle.xg_closer.proofs.Closed.{same_amounts}
use Rattle.xg_closer.proofs.closing.close_round.Goals as goal

pub close_by_rows-requires-clause-small_rows : goal.close_by_rows-requires-clause-small_rows
close_by_rows-requires-clause-small_rows c = rw (same_amounts c.args.rows.now) c.requires.small_rows

pub returns-clause-regrets : goal.returns-clause-regrets
returns-clause-regrets c = rw (same_amounts c.args.rows.now) at c.close_by_rows.ensures.regrets

pub returns-clause-equations : goal.returns-clause-equations
returns-clause-equations c = rw (same_amounts c.args.rows.now) at c.close_by_rows.ensures.equations
