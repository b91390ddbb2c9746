use Rattle.xg_jobs.proofs.SmallAmountsStay.{round_of}
use Rattle.xg_rows_tests.proofs.board_tests.made_by_one_pass.Goals as goal

pub add_by_one_pass-requires-clause-round : goal.add_by_one_pass-requires-clause-round
add_by_one_pass-requires-clause-round g c κs within =
    round_of c.args.input.now c.args.jobs.now c.requires.numbers c.requires.table c.leaf_count-leaves.ensures.mass
