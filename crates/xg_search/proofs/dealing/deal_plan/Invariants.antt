use Rattle.std.proofs.Common.{◌≡◌, length}
use Rattle.xg_search.proofs.dealing.deal_plan.Given as goal

abbrev pub invariant-loop-set : goal.invariant-loop-set
invariant-loop-set l = length l.plan ≡ length l.initial.plan
