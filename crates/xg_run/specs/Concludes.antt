-- What holds of a command that ends so, whatever the command is. `checks` says whether it checks a certificate, `meant`
-- which answers are meant by what the files tell.
use Rattle.std.specs.Prelude.{List, length, ℕ, Option, Some, None, IfSome, IsSomeAnd, ◌≤◌, string_bytes}
use Rattle.def_sums.specs.Limits.{most_workers}
use Rattle.def_outside.specs.Calls.{FilesCall, SinkCall, HasFailedOnce, HasNoFault, OpensAtMost, Wrote, WroteFront}
use Rattle.def_outside.specs.Calls.{IsUntouched}
use Rattle.def_file.specs.Content.{GameFile}
use Rattle.def_program.specs.Program.{Answer, success, refusal, usage}
use Rattle.def_plus.specs.declared.Variant.{Variant}
use Rattle.def_command.specs.declared.RowSettings.{RowSettings}
use Rattle.def_command.specs.declared.Settings.{Settings}
use Rattle.def_command.specs.Grammar.{Command, file_words}
use Rattle.def_program.specs.Meaning.{FileMeans, IsMeant, MeansOnly}
use Rattle.def_program.specs.Lines.{IsCheck, IsLine}
use Rattle.xg_engine.specs.State.{AreWithinLimitsOf}
use Rattle.xg_load.specs.declared.ending.Ending.{Ending}
use Rattle.xg_load.specs.declared.ending.Ending.TheVariants.{Done, Refused, ReadFault, WriteFault, NoMemory}

-- the text that is meant was written
pub record IsDone (meant : Answer → Type 0) (files : FilesCall) (out : SinkCall) : Type 0 where
  pub text : List ℕ
  pub means : MeansOnly meant (success text)
  pub read : HasNoFault files.faults
  pub written : HasNoFault out.faults
  pub wrote : Wrote out text

-- the line that is meant says why nothing was written
pub record IsRefused (checks : Type 0) (meant : Answer → Type 0) (files : FilesCall) (out : SinkCall) (line : List ℕ)
    : Type 0 where
  pub means : MeansOnly meant (refusal line)
  pub fits : IsLine checks files.taken 1 line
  pub read : HasNoFault files.faults
  pub untouched : IsUntouched out

-- the usage is meant
pub record IsUsage (meant : Answer → Type 0) (files : FilesCall) (out : SinkCall) : Type 0 where
  pub means : MeansOnly meant usage
  pub read : HasNoFault files.faults
  pub untouched : IsUntouched out

-- the files failed
pub record IsUnread (files : FilesCall) (out : SinkCall) : Type 0 where
  pub cause : HasFailedOnce files.faults
  pub untouched : IsUntouched out

-- the sink failed on the text that is meant
pub record IsCut (meant : Answer → Type 0) (files : FilesCall) (out : SinkCall) : Type 0 where
  pub text : List ℕ
  pub means : MeansOnly meant (success text)
  pub read : HasNoFault files.faults
  pub cause : HasFailedOnce out.faults
  pub front : WroteFront out text

abbrev pub Concludes : Type 0 → (Answer → Type 0) → FilesCall → SinkCall → Ending → Type 0
Concludes checks meant files out Done = IsDone meant files out
Concludes checks meant files out (Refused line) = IsRefused checks meant files out (string_bytes line)
Concludes checks meant files out ReadFault = IsUnread files out
Concludes checks meant files out WriteFault = IsCut meant files out
Concludes checks meant files out NoMemory = IsUntouched out

-- the same of words that may name no command
abbrev pub ConcludesWords : Type 0 → (Answer → Type 0) → FilesCall → SinkCall → Option Ending → Type 0
ConcludesWords checks meant files out (Some ending) = Concludes checks meant files out ending
ConcludesWords checks meant files out None = IsUsage meant files out

-- what a command that writes this text means of a file's content, where that is told
abbrev pub FileTold : (GameFile → List ℕ) → Option (List ℕ) → Answer → Type 0
FileTold text content answer = IsSomeAnd content (λ bytes. FileMeans text bytes answer)

-- how a call ends whose words name this command, or none: no more files are opened than the command names
abbrev pub EndsCall : Option Command → (List ℕ → Option (List ℕ)) → FilesCall → SinkCall → Option Ending → Type 0
EndsCall (Some command) told files out (Some ending) =
    Concludes (IsCheck (Some command)) (IsMeant (Some command) told) files out ending
    × OpensAtMost files (length (file_words command))
EndsCall (Some command) told files out None = ⊥
EndsCall None told files out (Some ending) = ⊥
EndsCall None told files out None = IsUsage (IsMeant None told) files out × OpensAtMost files 0

-- what may be asked of rounds of the variant and of their rows
pub record IsAllowed (variant : Variant) (settings : Settings) (rows : RowSettings) : Type 0 where
  pub limits : AreWithinLimitsOf variant settings
  pub some : IfSome rows.workers (λ number. 1 ≤ number)
  pub few : IfSome rows.workers (λ number. number ≤ most_workers)
