use Rattle.std.proofs.Common.{length, sym, subst, ap, arith}
use Rattle.std.specs.List.Sorted.{IsStrictlyIncreasing}
use Rattle.def_history.specs.JobRows.{job_leaves}
use Rattle.xg_touched.proofs.Touching.{touched_few, touched_rise}
use Rattle.xg_touched.proofs.touched.TouchedRows.build.Goals as goal

pub new-requires-clause-rising : goal.new-requires-clause-rising
new-requires-clause-rising c =
    let leaves = job_leaves c.args.form.now (record { first = c.args.first; count = c.args.count }) in
    subst IsStrictlyIncreasing (sym c.in_ok-rows.ensures) (touched_rise c.args.form.now leaves)

pub new-requires-clause-few : goal.new-requires-clause-few
new-requires-clause-few c =
    let form = c.args.form.now in
    let leaves = job_leaves form (record { first = c.args.first; count = c.args.count }) in
    omega (arith, ap length c.in_ok-rows.ensures, touched_few form leaves, c.facts.ensures.limit_one, c.facts.ensures.limit_two)
