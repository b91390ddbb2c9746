use Rattle.std.proofs.Common.{Err, refl, ap}
use Rattle.xg_io.specs.Calls.{files_call, sink_call}
use Rattle.def_program.specs.Text.{info_text}
use Rattle.xg_run.proofs.Solved.{ended, turned_down}
use Rattle.xg_run.proofs.program.info.Goals as goal

pub returns-in-Ok-clause-concludes : goal.returns-in-Ok-clause-concludes
returns-in-Ok-clause-concludes g c =
    ended info_text (g.F.Files.told c.args.files.now c.args.file.now)
    (files_call g.F.Files c.args.files.now c.load.new.files)
    (sink_call g.O.Sink c.args.out.now c.tell.new.out)
    c.in-Ok.ensures.cause c.in-Ok.accepted c.in-Ok.ensures.exact (info_text c.in-Ok.accepted) refl c.tell.result c.tell.ensures

pub returns-in-Err-clause-concludes : goal.returns-in-Err-clause-concludes
returns-in-Err-clause-concludes g c =
    turned_down info_text (g.F.Files.told c.args.files.now c.args.file.now)
    (files_call g.F.Files c.args.files.now c.load.new.files)
    (sink_call g.O.Sink c.args.out.now c.args.out.now) (refl, refl)
    c.in-Err.fault c.of_unloaded.result c.of_unloaded.ensures c.in-Err.ensures.exact
    (λ e. c.in-Err.ensures.too_long (ap Err e)) c.in-Err.ensures.cause
