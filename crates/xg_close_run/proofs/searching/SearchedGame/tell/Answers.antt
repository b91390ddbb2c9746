use Rattle.xg_io.specs.Calls.{sink_call}
use Rattle.xg_close_lines.specs.Texts.{standing_of}
use Rattle.xg_close_run.specs.Searched.{IsTrueOf}
use Rattle.xg_close_run.proofs.Spoken.{line_said}
use Rattle.xg_close_run.proofs.searching.SearchedGame.tell.Goals as goal

pub returns-clause-said : goal.returns-clause-said
returns-clause-said g c =
    line_said (IsTrueOf c.args.self.now c.args.asked.now.width) c.args.asked.now.quiet c.is_ok.result
    (standing_of c.progress-progress.result) (sink_call g.E.Sink c.args.err.now c.write_progress.new.err)
    c.write_progress.result c.if-asked.false c.is_ok.ensures.value
    (c.progress-progress.ensures c.args.asked.now.width c.requires.shown) c.write_progress.ensures.text
    c.write_progress.ensures.cause
