-- How a search ends: the exit status, and what the end shows.
use Rattle.std.specs.Prelude.{◌≡◌, ℕ, List, Option, Bool, true, false, string_bytes}
use Rattle.def_outside.specs.Calls.{FilesCall, SinkCall, HasFailedOnce, HasNoFault, Wrote, WroteFront, IsUntouched}
use Rattle.def_fraction.specs.Fraction.{Fraction}
use Rattle.def_sums.specs.Limits.{most_root}
use Rattle.def_file.specs.Content.{GameFile}
use Rattle.def_program.specs.Lines.{IsLine}
use Rattle.def_program.specs.Meaning.{MeansOnly}
use Rattle.def_program.specs.Program.{Answer, refusal}
use Rattle.def_program.specs.Text.{form_of_file}
use Rattle.def_close.specs.Plans.{ArePlansOf, pair_high, pair_low, pair_text}
use Rattle.xg_load.specs.Endings.{status_of}
use Rattle.xg_load.specs.declared.ending.Ending.{Ending}
use Rattle.xg_load.specs.declared.ending.Ending.TheVariants.{Done, Refused, ReadFault, WriteFault, NoMemory}
use Rattle.xg_close_run.specs.Brackets.{InfoMeans, IsNarrowEnough, IsTooWide, IsWritten}

-- the status, by whether the bracket is as narrow as asked
abbrev pub status_of_search : Bool → Ending → ℕ
status_of_search true ending = status_of ending
status_of_search false Done = 6
status_of_search false (Refused line) = 1
status_of_search false ReadFault = 3
status_of_search false WriteFault = 4
status_of_search false NoMemory = 5

-- ---- the end of a search on an accepted game

-- the text of two plans of the game, of which this is so
pub record HasPairText (game : GameFile) (IsSo : List ℕ → Fraction → Fraction → Type 0) : Type 0 where
  pub one : List ℕ
  pub two : List ℕ
  pub plans : ArePlansOf (form_of_file game) most_root one two
  pub so : IsSo (pair_text game one two) (pair_low game one two) (pair_high game one two)

abbrev pub Closes : Option Fraction → GameFile → SinkCall → Bool → Ending → Type 0
Closes asked game out true Done = HasNoFault out.faults
    × HasPairText game (λ text low high. Wrote out text × IsNarrowEnough asked game low high)
Closes asked game out false Done = HasNoFault out.faults
    × HasPairText game (λ text low high. Wrote out text × IsTooWide asked game low high)
Closes asked game out narrow WriteFault =
    HasFailedOnce out.faults × HasPairText game (λ text low high. WroteFront out text)
Closes asked game out narrow NoMemory = IsUntouched out
Closes asked game out narrow (Refused line) = ⊥
Closes asked game out narrow ReadFault = ⊥

-- ---- the end of a run, by the file's content

-- the file was read, and `info` has a text of it
pub record IsRead (content : Option (List ℕ)) (files : FilesCall) : Type 0 where
  pub means : (answer : Answer) → InfoMeans content answer → answer.status ≡ 0
  pub read : HasNoFault files.faults

-- the line that `info` says tells why nothing was written
pub record IsRefused (content : Option (List ℕ)) (files : FilesCall) (out : SinkCall) (line : List ℕ) : Type 0 where
  pub means : MeansOnly (InfoMeans content) (refusal line)
  pub fits : IsLine ⊥ files.taken 1 line
  pub read : HasNoFault files.faults
  pub untouched : IsUntouched out

abbrev pub Concludes : Option Fraction → Option (List ℕ) → FilesCall → SinkCall → Bool → Ending → Type 0
Concludes asked content files out true Done = IsRead content files × HasNoFault out.faults
    × IsWritten content (λ game text low high. Wrote out text × IsNarrowEnough asked game low high)
Concludes asked content files out false Done = IsRead content files × HasNoFault out.faults
    × IsWritten content (λ game text low high. Wrote out text × IsTooWide asked game low high)
Concludes asked content files out narrow WriteFault = IsRead content files × HasFailedOnce out.faults
    × IsWritten content (λ game text low high. WroteFront out text)
Concludes asked content files out narrow (Refused line) = IsRefused content files out (string_bytes line)
Concludes asked content files out narrow ReadFault = HasFailedOnce files.faults × IsUntouched out
Concludes asked content files out narrow NoMemory = IsUntouched out
