use Rattle.std.proofs.Common.{◌≡◌, ℕ, ◌<◌, false, get_or}
use Rattle.xg_batch.specs.declared.worker.Worker.{Worker}
use Rattle.xg_batch.proofs.crew.gather.Given as goal

abbrev pub invariant-loop-worker : goal.invariant-loop-worker
invariant-loop-worker l = (k : ℕ) (other : Worker) → k < l.worker-index → (get_or l.worker-items k other).wants_memory ≡ false
