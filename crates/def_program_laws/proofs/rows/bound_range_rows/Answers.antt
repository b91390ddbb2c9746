use Rattle.std.proofs.Common.{refl}
use Rattle.std.specs.Fmt.{digits}
use Rattle.def_fraction.specs.Divisors.{gcd}
use Rattle.def_fraction.specs.Fraction.{fraction_of}
use Rattle.def_cert_text.specs.Fields.{items_text, read_field}
use Rattle.def_cert_text.specs.Formats.{each_fits, each_items, read_each, read_last, read_number, read_row}
use Rattle.def_cert_text.specs.Numbers.{fraction_in, integer_in, whole_in}
use Rattle.def_program_laws.proofs.rows.bound_range_rows.Goals as goal

pub returns : goal.returns
unfolding digits gcd fraction_of items_text read_field each_fits each_items read_each read_last read_number read_row fraction_in integer_in whole_in
returns c = record {
  least_ends = refl;
  most_ends = refl;
  other_round = refl;
  no_low_round = refl;
  late_low_round = refl;
  no_high_round = refl;
  late_high_round = refl;
  small_low_end = refl;
  large_high_end = refl;
  least_root = refl;
  most_root = refl;
  large_root = refl;
  least_total = refl;
  most_total = refl;
  small_total = refl;
  large_total = refl;
  least_value = refl;
  most_value = refl;
  small_value = refl;
  large_value = refl;
  large_choice = refl;
  least_bracket = refl;
  most_bracket = refl;
  small_low = refl;
  fine_low = refl;
  large_high = refl;
  fine_high = refl;
  most_weights = refl;
  many_weights = refl;
}
