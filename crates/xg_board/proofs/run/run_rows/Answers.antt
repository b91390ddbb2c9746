use Rattle.xg_jobs.proofs.SmallAmountsStay.{round_of}
use Rattle.xg_board.proofs.run.run_rows.Goals as goal

pub run_named-requires-clause-round : goal.run_named-requires-clause-round
run_named-requires-clause-round g c κs within =
    round_of c.args.input.now c.args.jobs.now c.requires.numbers c.requires.table c.facts.ensures.mass
