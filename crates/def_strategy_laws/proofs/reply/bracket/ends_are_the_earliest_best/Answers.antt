use Rattle.def_reply.proofs.BestEnds.{best_ends}
use Rattle.def_strategy_laws.proofs.reply.bracket.ends_are_the_earliest_best.Goals as goal

pub returns : goal.returns
returns c = best_ends
