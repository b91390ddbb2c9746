use Rattle.std.proofs.Common.{arith}
use Rattle.def_sums.proofs.Ranges.{All-range}
use Rattle.def_plan.specs.Payoff.{IsNoBetter}
use Rattle.xg_reply.proofs.sets.best_sequence.Goals as goal
use Rattle.def_plan.specs.FormRows.{amount_of}

pub returns-clause-best : goal.returns-clause-best
returns-clause-best c =
    let w = amount_of c.args.into.now.worths in
    All-range (λ s. IsNoBetter c.args.player (w s) (w c.loop-s.best)) c.args.first c.args.actions
    (λ s low high. c.loop-s.invariant.no_better s low (omega arith))
