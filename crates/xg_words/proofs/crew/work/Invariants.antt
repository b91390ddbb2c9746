use Rattle.xg_jobs.specs.Table.{most_touched}
use Rattle.xg_words.specs.Running.{IsReadyToClaim}
use Rattle.xg_words.proofs.crew.work.Given as goal

abbrev pub invariant-loop : goal.invariant-loop
invariant-loop g l =
    IsReadyToClaim l.board.table.shared.table_id g.N.RowName.jobs g.N.RowName.rows g.N.RowName.amount (most_touched l.jobs.touched) l.member.worker
    l.member.packet.entries
