use Rattle.def_reply.proofs.EvaluatedRounds.{rounds}
use Rattle.def_strategy_laws.proofs.reply.bracket.rounds_are_evaluated.Goals as goal

pub returns : goal.returns
returns c = rounds
