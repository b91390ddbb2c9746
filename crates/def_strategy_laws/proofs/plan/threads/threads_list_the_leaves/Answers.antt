use Rattle.def_plan.proofs.ThreadLaws.{threads_list_the_leaves}
use Rattle.def_strategy_laws.proofs.plan.threads.threads_list_the_leaves.Goals as goal

pub returns : goal.returns
returns c = threads_list_the_leaves
