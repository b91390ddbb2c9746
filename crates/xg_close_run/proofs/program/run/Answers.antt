use Rattle.std.proofs.Common.{ℕ, List, Option, ◌∙◌}
use Rattle.def_outside.specs.Calls.{FilesCall, SinkCall}
use Rattle.xg_io.specs.Calls.{files_call, sink_call}
use Rattle.xg_close_run.specs.Brackets.{IsTrueWhereTold}
use Rattle.xg_load.specs.Endings.{line_at_end}
use Rattle.xg_close_run.proofs.Spoken.{said_at_end}
use Rattle.xg_close_run.proofs.Statuses.{KeepsStatus, status_shown}
use Rattle.xg_close_run.proofs.program.run.Goals as goal

pub returns : goal.returns
returns g c =
    let files : FilesCall = files_call g.F.Files c.args.files.now c.conclude-closing.new.files in
    let out : SinkCall = sink_call g.O.Sink c.args.out.now c.conclude-closing.new.out in
    let asked = c.args.asked.now in
    let content : Option (List ℕ) = g.F.Files.told c.args.files.now asked.file.now in
    let ending = c.conclude-closing.result.ending in
    let says = c.conclude-closing.ensures.said in
    let shows : KeepsStatus asked.width content files out c.finish.result (line_at_end ending) =
    status_shown asked.width content files out c.conclude-closing.result.is_narrow ending c.conclude-closing.ensures.concludes c.finish.result
    c.finish.ensures.status in
    let all = said_at_end g.E.Sink c.args.err.now c.conclude-closing.new.err c.finish.new.err
    (IsTrueWhereTold asked.width content) asked.quiet c.conclude-closing.result.is_heard (line_at_end ending) says
    c.finish.ensures.unheard c.finish.ensures.said in
    record {
      range = shows.range;
      taken = shows.taken;
      refused = shows.refused;
      complete = shows.complete;
      read_fault = shows.read_fault;
      files_failed = shows.files_failed;
      opens = c.conclude-closing.ensures.opens;
      write_fault = shows.write_fault;
      out_failed = shows.out_failed;
      narrow = shows.narrow;
      wide = shows.wide;
      front = shows.front;
      nothing = shows.nothing;
      said = record {
        progress = says.progress;
        line = line_at_end ending;
        lines = says.lines;
        none = says.none;
        fits = shows.fits;
        answered = shows.answered;
        heard = all.heard;
        said = all.said;
      };
      quiet = λ silent is. c.finish.ensures.silent is ∙ c.conclude-closing.ensures.quiet silent;
    }
