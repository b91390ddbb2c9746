-- How wide a bracket may be.
--     IsWidth width game asked         what is asked of the game's bracket: the width that is given, or else a
--                                      hundred-thousandth of the range of player one's payoffs
use Rattle.std.specs.Prelude.{◌≡◌, ℕ, ◌*◌, List, Option, Some, None, IfSome, unsigned_abs}
use Rattle.def_fraction.specs.Fraction.{Fraction}
use Rattle.def_file.specs.Content.{GameFile}
use Rattle.def_game_numbers.specs.Numbers.{tables_of}
use Rattle.def_payoffs.specs.Range.{IsPayoffRange}
use Rattle.def_cert_accepted.specs.Bounds.{difference}
use Rattle.def_progress.specs.Decimals.{IsQuotientText}

-- a hundred-thousandth
abbrev pub part_of_range : Fraction → Fraction
part_of_range range = record { num = range.num; den = range.den * 100000 }

pub record IsUsualWidth (game : GameFile) (width : Fraction) : Type 0 where
  pub low : Fraction
  pub high : Fraction
  pub payoffs : IsPayoffRange (tables_of game) game.tree low high
  pub width_is : width ≡ part_of_range (difference high low)

abbrev pub IsWidth : Option Fraction → GameFile → Fraction → Type 0
IsWidth (Some given) game width = width ≡ given
IsWidth None game width = IsUsualWidth game width

-- the text of a width that is given; of the usual one nothing is promised
abbrev pub IsShown : Option Fraction → List ℕ → Type 0
IsShown asked text = IfSome asked (λ width. IsQuotientText (unsigned_abs width.num) width.den text)
