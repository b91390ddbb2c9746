use Rattle.std.proofs.Common.{◌∙◌}
use Rattle.xg_jobs.proofs.RoundSums.{plain_sums}
use Rattle.xg_board.proofs.run.run_named.Goals as goal

pub returns : goal.returns
returns g c =
    plain_sums c.args.input.now c.args.jobs.now c.close.result c.requires.round (c.close.ensures.one ∙ c.in_ok-board.ensures.rows)
    c.close.ensures.count c.close.ensures.sums
