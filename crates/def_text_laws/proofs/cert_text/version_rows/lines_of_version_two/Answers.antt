use Rattle.std.proofs.Common.{refl}
use Rattle.std.specs.Fmt.{digits}
use Rattle.def_fraction.specs.Divisors.{gcd}
use Rattle.def_cert_text.specs.Fields.{items_text, read_field}
use Rattle.def_cert_text.specs.Numbers.{whole_in, integer_in, fraction_in, nonzero_in}
use Rattle.def_cert_text.specs.Formats.{each_items, read_each, read_number, read_last, read_row}
use Rattle.def_cert_text.specs.CertText.{version_in, versioned_in}
use Rattle.def_text_laws.proofs.cert_text.version_rows.lines_of_version_two.Goals as goal

pub returns-clause-sum_behind_the_unit : goal.returns-clause-sum_behind_the_unit
unfolding items_text each_items versioned_in version_in read_field whole_in integer_in fraction_in nonzero_in read_each read_row read_last read_number gcd
    digits
returns-clause-sum_behind_the_unit c = refl

pub returns-clause-space_behind_the_unit : goal.returns-clause-space_behind_the_unit
unfolding items_text each_items versioned_in version_in read_field whole_in integer_in fraction_in nonzero_in read_each read_row read_last read_number gcd
    digits
returns-clause-space_behind_the_unit c = refl

pub returns-clause-sum_before_the_mass : goal.returns-clause-sum_before_the_mass
unfolding items_text each_items versioned_in version_in read_field whole_in integer_in fraction_in nonzero_in read_each read_row read_last read_number gcd
    digits
returns-clause-sum_before_the_mass c = refl

pub returns-clause-sum_after_the_rounds : goal.returns-clause-sum_after_the_rounds
unfolding items_text each_items versioned_in version_in read_field whole_in integer_in fraction_in nonzero_in read_each read_row read_last read_number gcd
    digits
returns-clause-sum_after_the_rounds c = refl

pub returns-clause-no_sum : goal.returns-clause-no_sum
unfolding items_text each_items versioned_in version_in read_field whole_in integer_in fraction_in nonzero_in read_each read_row read_last read_number gcd
    digits
returns-clause-no_sum c = refl

pub returns-clause-sum_twice : goal.returns-clause-sum_twice
unfolding items_text each_items versioned_in version_in read_field whole_in integer_in fraction_in nonzero_in read_each read_row read_last read_number gcd
    digits
returns-clause-sum_twice c = refl

pub returns-clause-second_before_the_bracket : goal.returns-clause-second_before_the_bracket
unfolding items_text each_items versioned_in version_in read_field whole_in integer_in fraction_in nonzero_in read_each read_row read_last read_number gcd
    digits
returns-clause-second_before_the_bracket c = refl

pub returns-clause-no_second : goal.returns-clause-no_second
unfolding items_text each_items versioned_in version_in read_field whole_in integer_in fraction_in nonzero_in read_each read_row read_last read_number gcd
    digits
returns-clause-no_second c = refl

pub returns-clause-second_after_the_end : goal.returns-clause-second_after_the_end
unfolding items_text each_items versioned_in version_in read_field whole_in integer_in fraction_in nonzero_in read_each read_row read_last read_number gcd
    digits
returns-clause-second_after_the_end c = refl

pub returns-clause-second_twice : goal.returns-clause-second_twice
unfolding items_text each_items versioned_in version_in read_field whole_in integer_in fraction_in nonzero_in read_each read_row read_last read_number gcd
    digits
returns-clause-second_twice c = refl

pub returns-clause-second_of_one_number : goal.returns-clause-second_of_one_number
unfolding items_text each_items versioned_in version_in read_field whole_in integer_in fraction_in nonzero_in read_each read_row read_last read_number gcd
    digits
returns-clause-second_of_one_number c = refl

pub returns-clause-second_of_three_numbers : goal.returns-clause-second_of_three_numbers
unfolding items_text each_items versioned_in version_in read_field whole_in integer_in fraction_in nonzero_in read_each read_row read_last read_number gcd
    digits
returns-clause-second_of_three_numbers c = refl

pub returns-clause-sum_line_in_version_one : goal.returns-clause-sum_line_in_version_one
unfolding items_text each_items versioned_in version_in read_field whole_in integer_in fraction_in nonzero_in read_each read_row read_last read_number gcd
    digits
returns-clause-sum_line_in_version_one c = refl

pub returns-clause-second_in_version_one : goal.returns-clause-second_in_version_one
unfolding items_text each_items versioned_in version_in read_field whole_in integer_in fraction_in nonzero_in read_each read_row read_last read_number gcd
    digits
returns-clause-second_in_version_one c = refl

pub returns-clause-a_byte_more : goal.returns-clause-a_byte_more
unfolding items_text each_items versioned_in version_in read_field whole_in integer_in fraction_in nonzero_in read_each read_row read_last read_number gcd
    digits
returns-clause-a_byte_more c = refl

pub returns-clause-cut_before_the_second : goal.returns-clause-cut_before_the_second
unfolding items_text each_items versioned_in version_in read_field whole_in integer_in fraction_in nonzero_in read_each read_row read_last read_number gcd
    digits
returns-clause-cut_before_the_second c = refl

pub returns-clause-cut_behind_the_second : goal.returns-clause-cut_behind_the_second
unfolding items_text each_items versioned_in version_in read_field whole_in integer_in fraction_in nonzero_in read_each read_row read_last read_number gcd
    digits
returns-clause-cut_behind_the_second c = refl

pub returns-clause-cut_within_the_sum : goal.returns-clause-cut_within_the_sum
unfolding items_text each_items versioned_in version_in read_field whole_in integer_in fraction_in nonzero_in read_each read_row read_last read_number gcd
    digits
returns-clause-cut_within_the_sum c = refl

pub returns-clause-no_round_no_sum : goal.returns-clause-no_round_no_sum
unfolding items_text each_items versioned_in version_in read_field whole_in integer_in fraction_in nonzero_in read_each read_row read_last read_number gcd
    digits
returns-clause-no_round_no_sum c = refl

pub returns-clause-no_round_with_second : goal.returns-clause-no_round_with_second
unfolding items_text each_items versioned_in version_in read_field whole_in integer_in fraction_in nonzero_in read_each read_row read_last read_number gcd
    digits
returns-clause-no_round_with_second c = refl
