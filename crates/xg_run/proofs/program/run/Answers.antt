use Rattle.std.proofs.Common.{ℕ, List, Option, sym, ◌∙◌}
use Rattle.def_outside.specs.Calls.{FilesCall, SinkCall}
use Rattle.xg_io.specs.Calls.{files_call, sink_call}
use Rattle.def_program.specs.Program.{Answer}
use Rattle.def_cert_accepted.specs.Bounds.{BoundsHold}
use Rattle.def_command.specs.Grammar.{command_of_words}
use Rattle.def_program.specs.Lines.{IsCheck}
use Rattle.def_program.specs.Meaning.{Means}
use Rattle.def_program.proofs.Checked.{each_checked}
use Rattle.def_program.proofs.Played.{each_played}
use Rattle.xg_run.specs.Endings.{line_said}
use Rattle.xg_run.proofs.ExitStatusLaws.{KeepsStatus, no_ending, status_2, status_shown, status_range}
use Rattle.xg_run.proofs.WordsMeanTheirCommand.{Shows, end_shows}
use Rattle.xg_run.proofs.program.run.Goals as goal

pub returns : goal.returns
returns g c =
    let files : FilesCall =
    files_call g.F.Files c.args.files.now c.conclude-ending.new.files in
    let out : SinkCall = sink_call g.O.Sink c.args.out.now c.conclude-ending.new.out in
    let words : List (List ℕ) = c.args.words.now in
    let told : List ℕ → Option (List ℕ) = g.F.Files.told c.args.files.now in
    let meant : Answer → Type 0 = Means words told in
    let ending = c.conclude-ending.result in
    let ends : Shows told files out (command_of_words words) ending =
    end_shows told files out (command_of_words words) ending c.conclude-ending.ensures in
    let status = c.finish.ensures.status in
    let shows : KeepsStatus (IsCheck (command_of_words words)) meant files out c.finish.result (line_said ending) =
    status_shown (IsCheck (command_of_words words)) meant files out ending ends.concludes c.finish.result status in
    record {
      range = status_range ending c.finish.result status;
      words = (λ is. ends.usage.0 (no_ending ending (sym status ∙ is)), λ none. status ∙ status_2 ending (ends.usage.1 none));
      refused = shows.refused;
      complete = shows.complete;
      read_fault = shows.read_fault;
      files_failed = shows.files_failed;
      opens = ends.opens;
      write_fault = shows.write_fault;
      out_failed = shows.out_failed;
      whole = shows.whole;
      front = shows.front;
      nothing = shows.nothing;
      played = λ is. each_played words told out BoundsHold (λ game variant scale b it. it) (shows.whole is);
      checked = λ is. each_checked words told out BoundsHold (λ game variant scale b it. it) (shows.whole is);
      line = λ other. record {
        line = line_said ending;
        fits = shows.fits other;
        answered = shows.answered;
        said = c.finish.ensures.said (λ is. other (status ∙ is));
      };
      silent = λ is. c.finish.ensures.silent (sym status ∙ is);
    }
