use Rattle.std.proofs.Common.{refl}
use Rattle.std.specs.Fmt.{digits}
use Rattle.def_fraction.specs.Divisors.{gcd}
use Rattle.def_cert_text.specs.Fields.{items_text, read_field}
use Rattle.def_cert_text.specs.Formats.{each_fits, each_items, read_each, read_last, read_number, read_row}
use Rattle.def_cert_text.specs.Numbers.{fraction_in, integer_in, nonzero_in, whole_in}
use Rattle.def_program_laws.proofs.rows.head_range_rows.Goals as goal

pub returns : goal.returns
unfolding digits gcd items_text read_field each_fits each_items read_each read_last read_number read_row fraction_in integer_in nonzero_in whole_in
returns c = record {
  least_sizes = refl;
  most_sizes = refl;
  no_leaf = refl;
  many_leaves = refl;
  no_sets = refl;
  most_sets = refl;
  many_sets_of_one = refl;
  many_sets_of_two = refl;
  least_sequences = refl;
  most_sequences = refl;
  no_sequence_of_one = refl;
  no_sequence_of_two = refl;
  many_sequences_of_one = refl;
  many_sequences_of_two = refl;
  least_unit = refl;
  most_unit = refl;
  no_unit = refl;
  large_unit = refl;
  least_unit_alone = refl;
  most_unit_alone = refl;
  no_unit_alone = refl;
  large_unit_alone = refl;
  least_sum = refl;
  most_sum = refl;
  finest_sum = refl;
  no_sum = refl;
  large_sum = refl;
  fine_sum = refl;
  no_mass = refl;
  most_mass = refl;
  least_asked = refl;
  most_asked = refl;
  many_rounds = refl;
  large_every = refl;
  no_scale = refl;
  large_scale = refl;
}
