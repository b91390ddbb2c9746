use Rattle.std.proofs.Common.{ℕ, List, Option, Err, refl, sym, ap, subst}
use Rattle.def_game_numbers.specs.Weighed.{weighed_game}
use Rattle.def_program.specs.Text.{form_of_file}
use Rattle.xg_io.specs.Calls.{files_call, sink_call}
use Rattle.xg_close_run.specs.Brackets.{IsTrueWhereTold}
use Rattle.xg_load.specs.Endings.{IsUnloaded}
use Rattle.xg_close_run.specs.Searched.{IsTrueIn}
use Rattle.xg_load.specs.declared.ending.Ending.{Ending}
use Rattle.xg_close_run.proofs.Spoken.{nothing_said, progress_mapped}
use Rattle.xg_close_run.proofs.Statuses.{ended, true_of_file, turned_down}
use Rattle.xg_close_run.proofs.program.conclude.Goals as goal

pub returns-in-Ok-clause-concludes : goal.returns-in-Ok-clause-concludes
returns-in-Ok-clause-concludes g c =
    ended c.args.asked.now.width (g.F.Files.told c.args.files.now c.args.asked.now.file.now)
    (files_call g.F.Files c.args.files.now c.load.new.files) (sink_call g.O.Sink c.args.out.now c.close-closing.new.out)
    c.in-Ok.accepted c.in-Ok.ensures.exact c.in-Ok.ensures.cause c.close-closing.result.is_narrow
    c.close-closing.result.ending c.close-closing.ensures.closes

pub returns-in-Ok-clause-said : goal.returns-in-Ok-clause-said
returns-in-Ok-clause-said g c =
    let asked = c.args.asked.now in
    let game = c.in-Ok.accepted in
    let content : Option (List ℕ) = g.F.Files.told c.args.files.now asked.file.now in
    progress_mapped (IsTrueIn (form_of_file game) (weighed_game game).unit asked.width) (IsTrueWhereTold asked.width content)
    asked.quiet c.close-closing.result.is_heard (sink_call g.E.Sink c.args.err.now c.close-closing.new.err)
    (true_of_file asked.width content game c.in-Ok.ensures.exact) c.close-closing.ensures.said

pub returns-in-Err-clause-concludes : goal.returns-in-Err-clause-concludes
returns-in-Err-clause-concludes g c =
    turned_down c.args.asked.now.width (g.F.Files.told c.args.files.now c.args.asked.now.file.now)
    (files_call g.F.Files c.args.files.now c.load.new.files) (sink_call g.O.Sink c.args.out.now c.args.out.now) (refl, refl)
    c.unsaid.result.is_narrow c.in-Err.fault c.unsaid.result.ending
    (subst (λ (e : Ending). IsUnloaded c.in-Err.fault e) (sym c.unsaid.ensures.ending) c.of_unloaded.ensures)
    c.in-Err.ensures.exact (λ e. c.in-Err.ensures.too_long (ap Err e)) c.in-Err.ensures.cause

pub returns-in-Err-clause-said : goal.returns-in-Err-clause-said
returns-in-Err-clause-said g c =
    let asked = c.args.asked.now in
    let content : Option (List ℕ) = g.F.Files.told c.args.files.now asked.file.now in
    nothing_said (IsTrueWhereTold asked.width content) asked.quiet c.unsaid.result.is_heard
    (sink_call g.E.Sink c.args.err.now c.args.err.now) c.unsaid.ensures.heard refl refl
