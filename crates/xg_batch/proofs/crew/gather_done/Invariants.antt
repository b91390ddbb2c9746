use Rattle.std.proofs.Common.{◌≡◌, length}
use Rattle.std.specs.Prelude.{vec_capacity}
use Rattle.xg_batch.specs.Shares.{HasItemsFrom, HaveSharesBelow}
use Rattle.xg_batch.proofs.crew.gather_done.Given as goal

abbrev pub invariant-loop-file : goal.invariant-loop-file
invariant-loop-file l = record {
  workers : length l.crew.items ≡ l.batch.workers;
  shares : HaveSharesBelow l.batch l.file l.crew.items;
  gathered : HasItemsFrom l.batch l.file l.items.items;
  room : vec_capacity l.items ≡ vec_capacity l.initial.items;
}
