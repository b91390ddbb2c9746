-- What is said of a search while it goes on.
--     progress_line                     the line that says how a search stands
--     IsProgressLine IsTrueOf line      such a line, which says what is true
--     AreProgress IsTrueOf text         such lines, one behind the other
--     Reports IsTrueOf sink             such lines were said, or cut off
use Rattle.std.specs.Prelude.{◌≡◌, ℕ, List, [], ◌∷◌, ◌++◌, All, codes}
use Rattle.std.specs.List.{concat}
use Rattle.std.specs.Fmt.{decimal}
use Rattle.def_outside.specs.Calls.{HasFailedOnce, HasNoFault, SinkCall, Wrote, WroteFront}
use Rattle.def_fraction.specs.Fraction.{Fraction}
use Rattle.def_fraction.specs.Text.{fraction_text}
use Rattle.def_progress.specs.Decimals.{Decimal, decimal_text}

-- how a search stands: the rounds that were played, a width that LOW and HIGH have at the most, the text of the width
-- that is asked, LOW and HIGH
pub record Standing : Type 0 where
  pub rounds : ℕ
  pub width : Decimal
  pub asked : List ℕ
  pub low : Fraction
  pub high : Fraction

-- a text behind the word that tells what it is
abbrev pub named : List ℕ → List ℕ → List ℕ
named name text = name ++ text

abbrev pub widths_text : Decimal → List ℕ → List ℕ
widths_text width asked = named (codes " rounds, width ") (decimal_text width) ++ named (codes " of ") asked

abbrev pub bounds_text : Fraction → Fraction → List ℕ
bounds_text low high =
    named (codes ", low ") (fraction_text low) ++ (named (codes ", high ") (fraction_text high) ++ 10 ∷ [])

-- `xg_close: 4164 rounds, width 0.000213 of 0.001, low -50945739/870318080, high -17937271/342097920`, and a line feed
abbrev pub progress_line : Standing → List ℕ
progress_line standing =
    named (codes "xg_close: ") (decimal standing.rounds)
    ++ (widths_text standing.width standing.asked ++ bounds_text standing.low standing.high)

-- the line says how a search stands of which this is true
pub record IsProgressLine (IsTrueOf : Standing → Type 0) (line : List ℕ) : Type 0 where
  pub standing : Standing
  pub text : line ≡ progress_line standing
  pub is_true : IsTrueOf standing

-- a text of such lines
pub record AreProgress (IsTrueOf : Standing → Type 0) (text : List ℕ) : Type 0 where
  pub lines : List (List ℕ)
  pub text_is : text ≡ concat lines
  pub each : All (IsProgressLine IsTrueOf) lines

-- the lines were said whole, or a front of them up to the one write that failed
pub data Reports (IsTrueOf : Standing → Type 0) (sink : SinkCall) : Type 0 where
  in_whole : (text : List ℕ) → AreProgress IsTrueOf text → HasNoFault sink.faults → Wrote sink text
      → Reports IsTrueOf sink
  cut_off : (text : List ℕ) → AreProgress IsTrueOf text → HasFailedOnce sink.faults → WroteFront sink text
      → Reports IsTrueOf sink
