use Rattle.std.proofs.Common.{refl}
use Rattle.def_file.specs.Content.{GameFile}
use Rattle.def_game_numbers.specs.Weighed.{weighed_game}
use Rattle.def_program.specs.Text.{form_of_file}
use Rattle.xg_io.specs.Calls.{sink_call}
use Rattle.xg_close_run.specs.Searched.{IsTrueIn}
use Rattle.xg_close_run.proofs.Spoken.{nothing_said}
use Rattle.xg_close_run.proofs.closing.close.Goals as goal

pub returns-in_default-clause-said : goal.returns-in_default-clause-said
returns-in_default-clause-said g c =
    let game : GameFile = c.args.accepted.now in
    nothing_said (IsTrueIn (form_of_file game) (weighed_game game).unit c.args.asked.now.width) c.args.asked.now.quiet
    c.unsaid.result.is_heard (sink_call g.E.Sink c.args.err.now c.args.err.now) c.unsaid.ensures.heard refl refl

pub returns-in_default-table_of-clause-said : goal.returns-in_default-table_of-clause-said
returns-in_default-table_of-clause-said g c =
    let game : GameFile = c.args.accepted.now in
    nothing_said (IsTrueIn (form_of_file game) (weighed_game game).unit c.args.asked.now.width) c.args.asked.now.quiet
    c.unsaid-in_default-table_of.result.is_heard (sink_call g.E.Sink c.args.err.now c.args.err.now)
    c.unsaid-in_default-table_of.ensures.heard refl refl
