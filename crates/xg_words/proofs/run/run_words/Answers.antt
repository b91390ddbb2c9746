use Rattle.std.proofs.Common.{length, subst}
use Rattle.def_plan.specs.FormRows.{row_count}
use Rattle.def_words.specs.Amounts.{HaveRoom}
use Rattle.xg_jobs.proofs.SmallAmountsStay.{round_of}
use Rattle.xg_words.proofs.Small.{small_amounts}
use Rattle.xg_words.proofs.run.run_words.Goals as goal

pub run_named-requires-clause-round : goal.run_named-requires-clause-round
run_named-requires-clause-round g c κs within =
    round_of c.args.input.now c.args.jobs.now c.requires.numbers c.requires.table c.facts.ensures.mass

pub run_named-requires-clause-room : goal.run_named-requires-clause-room
run_named-requires-clause-room g c κs within =
    let form = c.args.input.now.form.now in
    let jobs = c.args.jobs.now in
    let round = round_of c.args.input.now jobs c.requires.numbers c.requires.table c.facts.ensures.mass in
    subst (HaveRoom (length jobs.ranges) (row_count form)) round.amount_is
    (small_amounts form c.args.input.now.one.now c.args.input.now.two.now jobs c.requires.table c.requires.fits)
