use Rattle.std.proofs.Common.{◌≡◌, ◌+◌, ◌*◌, ◌^◌, ◌+ℤ◌, drop, length}
use Rattle.def_plan.specs.Form.{placed, player_sets}
use Rattle.def_plan.specs.Payoff.{values_after}
use Rattle.xg_check.specs.Views.{AreAllWithin, row}
use Rattle.xg_check.proofs.AddLemmas.{AddsUpTo}
use Rattle.xg_check.proofs.adding.add_values.Given as goal

abbrev pub invariant-loop-k : goal.invariant-loop-k
invariant-loop-k l = record {
  left : AddsUpTo (row l.rows) (values_after (drop l.k (placed (player_sets l.form l.player))) (drop l.k l.values))
      (λ s. row l.initial.rows s +ℤ values_after (placed (player_sets l.form l.player)) l.values s);
  small : AreAllWithin (2 ^ 119 + l.k * 2 ^ 100) l.rows;
  same : length l.rows ≡ length l.initial.rows;
}
