use Rattle.std.proofs.Common.{subst}
use Rattle.xg_io.specs.Calls.{sink_call}
use Rattle.def_file.specs.Content.{GameFile}
use Rattle.def_program.specs.Program.{solved}
use Rattle.xg_load.specs.Endings.{Tells}
use Rattle.xg_run.proofs.program.drill.Goals as goal

pub returns-in-Ok : goal.returns-in-Ok
returns-in-Ok g c =
    subst (λ (game : GameFile). Tells (solved c.args.settings game)
    (sink_call g.O.Sink c.args.out.now c.play.new.out) c.play.result) c.in-Ok.ensures c.play.ensures
