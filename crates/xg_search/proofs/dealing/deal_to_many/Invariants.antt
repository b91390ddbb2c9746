use Rattle.std.proofs.Common.{◌≡◌, ◌≤◌, length}
use Rattle.xg_search.proofs.dealing.deal_to_many.Given as goal

abbrev pub invariant-loop-s : goal.invariant-loop-s
invariant-loop-s l = record { count : length l.plan ≡ length l.initial.plan; within : l.before ≤ l.number }
