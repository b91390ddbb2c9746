use Rattle.std.proofs.Common.{◌≡◌, take, vec_capacity}
use Rattle.xg_rowcore.proofs.amounts.widen_into.Given as goal

abbrev pub invariant-loop-i : goal.invariant-loop-i
invariant-loop-i l = record {
  items : l.wide.items ≡ take l.i l.small;
  room : vec_capacity l.wide ≡ vec_capacity l.initial.wide;
}
