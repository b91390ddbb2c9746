use Rattle.def_plan.proofs.BadSets.{bad_set-none, bad_set-some}
use Rattle.def_strategy_laws.proofs.plan.bad_set_is_exact.Goals as goal

pub returns : goal.returns
returns c = record { none = bad_set-none; some = bad_set-some }
