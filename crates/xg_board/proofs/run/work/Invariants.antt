use Rattle.std.proofs.Common.{◌≡◌, ◌<◌, ◌^◌, ◌⊎◌, length}
use Rattle.xg_jobs.specs.Table.{most_touched}
use Rattle.xg_locked.specs.Rights.{number_from}
use Rattle.xg_board.specs.Running.{IsReady}
use Rattle.xg_board.proofs.run.work.Given as goal

abbrev pub invariant-loop : goal.invariant-loop
invariant-loop g l = record {
  ready : IsReady (number_from l.board.jobs l.board.stripes) (most_touched l.jobs.touched) l.worker.pass l.worker.packet.entries;
  grouped : (l.worker.packet ≡ l.initial.worker.packet)
      ⊎ (length l.worker.packet.entries.list < 2 ^ 32 → l.worker.packet.entries.chained ≡ l.board.stripes);
}
