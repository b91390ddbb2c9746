use Rattle.std.proofs.Common.{ℕ, List, Option, subst, sym}
use Rattle.def_outside.specs.Calls.{SinkCall, Says}
use Rattle.xg_io.specs.Calls.{sink_call}
use Rattle.xg_load.specs.declared.ending.Ending.{Ending}
use Rattle.xg_load.proofs.WrittenLineIsSaid.{says_of}
use Rattle.xg_run.specs.Endings.{line_said}
use Rattle.xg_run.proofs.ending.finish.Goals as goal

pub returns-in-None-clause-said : goal.returns-in-None-clause-said
returns-in-None-clause-said g c =
    let err : SinkCall = sink_call g.E.Sink c.args.err.now c.write_all.new.sink in
    λ _. subst (λ (ending : Option Ending). Says err (line_said ending)) (sym c.in-None.is)
    (subst (λ (line : List ℕ). Says err line) c.usage.ensures
    (says_of c.write_all.result err c.usage.result.now
    c.write_all.ensures.appended c.write_all.ensures.rest c.write_all.ensures.cause))
