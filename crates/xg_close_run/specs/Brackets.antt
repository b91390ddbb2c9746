-- The bracket that is written of a file's game.
--     HasBracketText file IsSo         a text of a bracket of the game of a file of these bytes, of which this is so
--     InfoMeans content answer         what `info` means of a file's content, where that is told
use Rattle.std.specs.Prelude.{◌≡◌, ◌⊎◌, ℕ, List, Option, IfSome, IsSomeAnd}
use Rattle.def_fraction.specs.Fraction.{Fraction}
use Rattle.def_sums.specs.Limits.{most_root}
use Rattle.def_file.specs.Content.{GameFile}
use Rattle.def_check.specs.Accepted.{IsAccepted}
use Rattle.def_program.specs.Meaning.{EndsWith, FileMeans}
use Rattle.def_program.specs.Program.{Answer}
use Rattle.def_program.specs.Text.{form_of_file, info_text}
use Rattle.def_close.specs.Narrow.{IsAsNarrow}
use Rattle.def_close.specs.Plans.{ArePlansOf, IsBracketText, pair_high, pair_low}
use Rattle.def_progress.specs.Decimals.{value_of}
use Rattle.def_progress.specs.Progress.{Standing}
use Rattle.xg_close_run.specs.Widths.{IsShown, IsWidth}

-- the game of the file, and a text that a check of the file accepts with this bracket, all of whose bounds hold
pub record HasBracketText (file : List ℕ) (IsSo : GameFile → List ℕ → Fraction → Fraction → Type 0) : Type 0 where
  pub game : GameFile
  pub accepted : IsAccepted file game
  pub text : List ℕ
  pub low : Fraction
  pub high : Fraction
  pub bracket : IsBracketText file text low high
  pub so : IsSo game text low high

-- so it is where the file's bytes are told
abbrev pub IsWritten : Option (List ℕ) → (GameFile → List ℕ → Fraction → Fraction → Type 0) → Type 0
IsWritten content IsSo = IfSome content (λ file. HasBracketText file IsSo)

-- HIGH less LOW is at most the width that is asked of the game's bracket, and the other way round
pub record IsNarrowEnough (asked : Option Fraction) (game : GameFile) (low high : Fraction) : Type 0 where
  pub width : Fraction
  pub asks : IsWidth asked game width
  pub narrow : IsAsNarrow width low high

pub record IsTooWide (asked : Option Fraction) (game : GameFile) (low high : Fraction) : Type 0 where
  pub width : Fraction
  pub asks : IsWidth asked game width
  pub wide : IsAsNarrow width low high → ⊥

-- A line of progress is true of the file's game: LOW and HIGH are the bounds of plans of the greatest root, the width
-- isn't below HIGH less LOW, and a width that is given is written as it is.
pub record IsTrueOfFile (asked : Option Fraction) (file : List ℕ) (standing : Standing) : Type 0 where
  pub game : GameFile
  pub accepted : IsAccepted file game
  pub one : List ℕ
  pub two : List ℕ
  pub plans : ArePlansOf (form_of_file game) most_root one two
  pub low : standing.low ≡ pair_low game one two
  pub high : standing.high ≡ pair_high game one two
  pub width : IsAsNarrow (value_of standing.width) standing.low standing.high
  pub asked_is : IsShown asked standing.asked

abbrev pub IsTrueWhereTold : Option Fraction → Option (List ℕ) → Standing → Type 0
IsTrueWhereTold asked content standing = IfSome content (λ file. IsTrueOfFile asked file standing)

-- what `info` means of a file's content, where that is told
abbrev pub InfoMeans : Option (List ℕ) → Answer → Type 0
InfoMeans content answer = IsSomeAnd content (λ bytes. FileMeans info_text bytes answer)

-- the status goes with that of `info`: where that has a text, the bracket is as narrow as asked or not, and memory may
-- run out
abbrev pub GoesWithInfo : ℕ → ℕ → Type 0
GoesWithInfo info status = EndsWith info status ⊎ ((info ≡ 0) × (status ≡ 6))
