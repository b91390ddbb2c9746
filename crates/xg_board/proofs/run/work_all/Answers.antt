use denote.Param.Send.{sendable}
use Rattle.xg_jobs.specs.Table.{most_touched}
use Rattle.xg_locked.specs.Rights.{number_from}
use Rattle.xg_board.specs.Running.{IsReady}
use Rattle.xg_jobs.proofs.Crews.{read_at}
use Rattle.xg_board.proofs.run.work_all.Goals as goal

pub for_each_mut-requires-clause-accepts : goal.for_each_mut-requires-clause-accepts
for_each_mut-requires-clause-accepts g c κs within = λ i p below is.
    let number = number_from c.args.board.now.jobs c.args.board.now.stripes in
    let ready = read_at (λ w. IsReady number (most_touched c.args.jobs.now.touched) w.pass w.packet.entries) _ _ i p.now
    c.as_mut_slice.ensures.value c.requires.ready below is in
    (c.requires.round, (ready, (search sendable, search sendable, search sendable, search sendable)))
