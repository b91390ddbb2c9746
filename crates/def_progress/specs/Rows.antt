-- Worked rows: texts of decimals, and a line of progress.
use Rattle.std.specs.Prelude.{◌≡◌, negsuc, codes}
use Rattle.def_progress.specs.Decimals.{decimal_text}
use Rattle.def_progress.specs.Progress.{progress_line}

pub record DecimalRows : Type 0 where
  pub small : decimal_text (record { number = 213; places = 6 }) ≡ codes "0.000213"
  pub large : decimal_text (record { number = 1250; places = 2 }) ≡ codes "12.50"
  pub whole : decimal_text (record { number = 70; places = 1 }) ≡ codes "7.0"
  pub no_places : decimal_text (record { number = 70; places = 0 }) ≡ codes "70"

pub record LineRow : Type 0 where
  pub line : progress_line (record {
    rounds = 4164;
    width = record { number = 213; places = 6 };
    asked = codes "0.001";
    low = record { num = negsuc 50945738; den = 870318080 };
    high = record { num = negsuc 17937270; den = 342097920 };
  }) ≡ codes "xg_close: 4164 rounds, width 0.000213 of 0.001, low -50945739/870318080, high -17937271/342097920\n"
