use Rattle.std.proofs.Common.{◌≡◌, [], length, All}
use Rattle.std.specs.Prelude.{vec_capacity}
use Rattle.xg_board.specs.Holdings.{Holding, tickets_of}
use Rattle.xg_board.proofs.run.passes_of.Given as goal

abbrev pub invariant-loop-worker : goal.invariant-loop-worker
invariant-loop-worker g l = record {
  len : length l.passes.items ≡ length l.yielded;
  no_rights : All (λ (p : Holding). p.rights ≡ []) l.passes.items;
  spent : tickets_of l.passes.items ≡ 0;
  room : vec_capacity l.passes ≡ vec_capacity l.initial.passes;
}
