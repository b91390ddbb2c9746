-- What a search of plans works with, and what it finds.
use Rattle.std.specs.Prelude.{◌≡◌, ℕ, ◌*◌, ◌≤◌, ℤ, pos, ◌-ℤ◌, ◌≤ℤ◌, List, Option}
use Rattle.def_sums.specs.Limits.{most_root}
use Rattle.def_fraction.specs.Fraction.{Fraction, most}
use Rattle.def_plan.specs.Form.{SequenceForm}
use Rattle.def_cert_accepted.specs.OfOutcome.{printed_bound}
use Rattle.def_close.specs.Narrow.{IsAsNarrow}
use Rattle.def_close.specs.Plans.{ArePlansOf, ends_of_plans}
use Rattle.def_progress.specs.Decimals.{value_of}
use Rattle.def_progress.specs.Progress.{Standing}
use Rattle.xg_jobs.specs.Table.{HasLeavesOf}
use Rattle.xg_close_run.specs.Widths.{IsShown}
use Rattle.xg_close_run.specs.declared.searching.SearchedGame.{SearchedGame}
use Rattle.xg_close_run.specs.declared.width.Width.{Width}

-- the width, as a fraction
abbrev pub width_of : Width → Fraction
width_of width = record { num = pos width.num; den = width.den * width.per }

-- its parts have room
pub record IsSmallWidth (width : Width) : Type 0 where
  pub some_den : 1 ≤ width.den
  pub small_per : width.per ≤ 100000

-- how far two totals are apart; nothing where they stand the other way round
pub record IsGap (low high : ℤ) (gap : ℕ) : Type 0 where
  pub apart : low ≤ℤ high → pos gap ≡ high -ℤ low
  pub crossed : high ≤ℤ low → gap ≡ 0

-- the table is that of the form's leaves, and the unit has room
pub record CanBeSearched (game : SearchedGame) : Type 0 where
  pub table : HasLeavesOf game.form.now game.jobs.now
  pub some_unit : 1 ≤ game.unit
  pub small_unit : game.unit ≤ most

-- a line of progress is true of a game of this form and unit
pub record IsTrueIn (form : SequenceForm) (unit : ℕ) (asked : Option Fraction) (standing : Standing) : Type 0 where
  pub one : List ℕ
  pub two : List ℕ
  pub plans : ArePlansOf form most_root one two
  pub low : standing.low ≡ printed_bound unit (ends_of_plans form one two).lower
  pub high : standing.high ≡ printed_bound unit (ends_of_plans form one two).upper
  pub width : IsAsNarrow (value_of standing.width) standing.low standing.high
  pub asked_is : IsShown asked standing.asked

abbrev pub IsTrueOf : SearchedGame → Option Fraction → Standing → Type 0
IsTrueOf game asked standing = IsTrueIn game.form.now game.unit asked standing
