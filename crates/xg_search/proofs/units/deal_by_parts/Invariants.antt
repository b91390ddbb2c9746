use Rattle.std.proofs.Common.{◌^◌, ◌≤◌}
use Rattle.xg_search.proofs.units.deal_by_parts.Given as goal

abbrev pub invariant-loop-i : goal.invariant-loop-i
invariant-loop-i l = l.before ≤ 2 ^ 27
