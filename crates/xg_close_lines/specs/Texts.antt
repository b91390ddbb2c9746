-- What a line of progress says of the values in memory.
use Rattle.std.specs.Prelude.{ℕ, List, ◌∷◌, ◌++◌}
use Rattle.std.specs.Fmt.{decimal}
use Rattle.def_fraction.specs.Literal.{slash}
use Rattle.def_progress.specs.Decimals.{Decimal, decimal_text}
use Rattle.def_progress.specs.Progress.{Standing}
use Rattle.xg_close_numbers.specs.declared.rounding.Rounded.{Rounded}
use Rattle.xg_close_lines.specs.declared.asked.AskedWidth.{AskedWidth}
use Rattle.xg_close_lines.specs.declared.asked.AskedWidth.TheVariants as asked
use Rattle.xg_close_lines.specs.declared.line.Progress.{Progress}

abbrev pub decimal_of : Rounded → Decimal
decimal_of rounded = record { number = rounded.number; places = rounded.places }

abbrev pub asked_text : AskedWidth → List ℕ
asked_text (asked.Decimal rounded) = decimal_text (decimal_of rounded)
asked_text (asked.Quotient num den) = decimal num ++ slash ∷ decimal den

abbrev pub standing_of : Progress → Standing
standing_of progress = record {
  rounds = progress.rounds;
  width = decimal_of progress.width;
  asked = asked_text progress.asked;
  low = progress.low;
  high = progress.high;
}
