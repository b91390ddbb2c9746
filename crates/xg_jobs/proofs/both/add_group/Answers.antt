use Rattle.std.proofs.Common.{map, arith}
use Rattle.def_plan.specs.FormRows.{amount_of}
use Rattle.xg_jobs.proofs.Parts.{row_untouched}
use Rattle.xg_jobs.proofs.both.add_group.Goals as goal

pub sum_group-requires : goal.sum_group-requires
sum_group-requires g c κs within =
    (within.0, (within.1, (c.requires.1.1.0, (c.requires.1.1.1.1.1.0, (c.requires.1.1.1.1.1.1.0, omega (arith, c.requires.1.1.1.1.1.1.1 0))))))

pub returns-then-number-eq0-clause-other : goal.returns-then-number-eq0-clause-other
returns-then-number-eq0-clause-other g c = λ b.
    row_untouched c.args.number (map g.E.GroupEntry.leaf c.args.group.now) b (amount_of (map g.R.Row.amount c.args.other.now) b) c.if-number-eq0.true
