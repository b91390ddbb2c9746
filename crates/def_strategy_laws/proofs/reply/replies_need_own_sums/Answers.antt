use Rattle.def_reply.proofs.OwnSums.{replies_need_own_sums}
use Rattle.def_strategy_laws.proofs.reply.replies_need_own_sums.Goals as goal

pub returns : goal.returns
returns c = replies_need_own_sums
