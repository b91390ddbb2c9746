use Rattle.xg_batch.specs.Shares.{HoldsShare}
use Rattle.xg_batch.proofs.worker.Worker.work.Given as goal

abbrev pub invariant-loop-file : goal.invariant-loop-file
invariant-loop-file g l = HoldsShare l.batch l.number l.file l.self.items.items
