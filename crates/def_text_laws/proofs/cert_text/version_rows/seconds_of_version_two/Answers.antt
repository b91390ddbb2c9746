use Rattle.std.proofs.Common.{refl}
use Rattle.std.specs.Fmt.{digits}
use Rattle.def_fraction.specs.Divisors.{gcd}
use Rattle.def_cert_text.specs.Fields.{items_text, read_field}
use Rattle.def_cert_text.specs.Numbers.{whole_in, integer_in, fraction_in, nonzero_in}
use Rattle.def_cert_text.specs.Formats.{each_items, read_each, read_number, read_last, read_row}
use Rattle.def_cert_text.specs.CertText.{version_in, versioned_in}
use Rattle.def_text_laws.proofs.cert_text.version_rows.seconds_of_version_two.Goals as goal

pub returns-clause-low_signed_zero : goal.returns-clause-low_signed_zero
unfolding items_text each_items versioned_in version_in read_field whole_in integer_in fraction_in nonzero_in read_each read_row read_last read_number gcd
    digits
returns-clause-low_signed_zero c = refl

pub returns-clause-high_signed_zero : goal.returns-clause-high_signed_zero
unfolding items_text each_items versioned_in version_in read_field whole_in integer_in fraction_in nonzero_in read_each read_row read_last read_number gcd
    digits
returns-clause-high_signed_zero c = refl

pub returns-clause-low_one_over_one : goal.returns-clause-low_one_over_one
unfolding items_text each_items versioned_in version_in read_field whole_in integer_in fraction_in nonzero_in read_each read_row read_last read_number gcd
    digits
returns-clause-low_one_over_one c = refl

pub returns-clause-high_one_over_one : goal.returns-clause-high_one_over_one
unfolding items_text each_items versioned_in version_in read_field whole_in integer_in fraction_in nonzero_in read_each read_row read_last read_number gcd
    digits
returns-clause-high_one_over_one c = refl

pub returns-clause-low_not_lowest : goal.returns-clause-low_not_lowest
unfolding items_text each_items versioned_in version_in read_field whole_in integer_in fraction_in nonzero_in read_each read_row read_last read_number gcd
    digits
returns-clause-low_not_lowest c = refl

pub returns-clause-high_not_lowest : goal.returns-clause-high_not_lowest
unfolding items_text each_items versioned_in version_in read_field whole_in integer_in fraction_in nonzero_in read_each read_row read_last read_number gcd
    digits
returns-clause-high_not_lowest c = refl

pub returns-clause-low_over_zero : goal.returns-clause-low_over_zero
unfolding items_text each_items versioned_in version_in read_field whole_in integer_in fraction_in nonzero_in read_each read_row read_last read_number gcd
    digits
returns-clause-low_over_zero c = refl

pub returns-clause-high_over_zero : goal.returns-clause-high_over_zero
unfolding items_text each_items versioned_in version_in read_field whole_in integer_in fraction_in nonzero_in read_each read_row read_last read_number gcd
    digits
returns-clause-high_over_zero c = refl

pub returns-clause-low_plus : goal.returns-clause-low_plus
unfolding items_text each_items versioned_in version_in read_field whole_in integer_in fraction_in nonzero_in read_each read_row read_last read_number gcd
    digits
returns-clause-low_plus c = refl

pub returns-clause-high_plus : goal.returns-clause-high_plus
unfolding items_text each_items versioned_in version_in read_field whole_in integer_in fraction_in nonzero_in read_each read_row read_last read_number gcd
    digits
returns-clause-high_plus c = refl

pub returns-clause-low_empty : goal.returns-clause-low_empty
unfolding items_text each_items versioned_in version_in read_field whole_in integer_in fraction_in nonzero_in read_each read_row read_last read_number gcd
    digits
returns-clause-low_empty c = refl

pub returns-clause-high_empty : goal.returns-clause-high_empty
unfolding items_text each_items versioned_in version_in read_field whole_in integer_in fraction_in nonzero_in read_each read_row read_last read_number gcd
    digits
returns-clause-high_empty c = refl

pub returns-clause-low_decimal_point : goal.returns-clause-low_decimal_point
unfolding items_text each_items versioned_in version_in read_field whole_in integer_in fraction_in nonzero_in read_each read_row read_last read_number gcd
    digits
returns-clause-low_decimal_point c = refl

pub returns-clause-high_decimal_point : goal.returns-clause-high_decimal_point
unfolding items_text each_items versioned_in version_in read_field whole_in integer_in fraction_in nonzero_in read_each read_row read_last read_number gcd
    digits
returns-clause-high_decimal_point c = refl

pub returns-clause-low_past_the_limit : goal.returns-clause-low_past_the_limit
unfolding items_text each_items versioned_in version_in read_field whole_in integer_in fraction_in nonzero_in read_each read_row read_last read_number gcd
    digits
returns-clause-low_past_the_limit c = refl

pub returns-clause-high_past_the_limit : goal.returns-clause-high_past_the_limit
unfolding items_text each_items versioned_in version_in read_field whole_in integer_in fraction_in nonzero_in read_each read_row read_last read_number gcd
    digits
returns-clause-high_past_the_limit c = refl

pub returns-clause-low_past_the_limit_below_zero : goal.returns-clause-low_past_the_limit_below_zero
unfolding items_text each_items versioned_in version_in read_field whole_in integer_in fraction_in nonzero_in read_each read_row read_last read_number gcd
    digits
returns-clause-low_past_the_limit_below_zero c = refl

pub returns-clause-high_past_the_limit_below_zero : goal.returns-clause-high_past_the_limit_below_zero
unfolding items_text each_items versioned_in version_in read_field whole_in integer_in fraction_in nonzero_in read_each read_row read_last read_number gcd
    digits
returns-clause-high_past_the_limit_below_zero c = refl

pub returns-clause-low_too_fine : goal.returns-clause-low_too_fine
unfolding items_text each_items versioned_in version_in read_field whole_in integer_in fraction_in nonzero_in read_each read_row read_last read_number gcd
    digits
returns-clause-low_too_fine c = refl

pub returns-clause-high_too_fine : goal.returns-clause-high_too_fine
unfolding items_text each_items versioned_in version_in read_field whole_in integer_in fraction_in nonzero_in read_each read_row read_last read_number gcd
    digits
returns-clause-high_too_fine c = refl

pub returns-clause-low_zero : goal.returns-clause-low_zero
unfolding items_text each_items versioned_in version_in read_field whole_in integer_in fraction_in nonzero_in read_each read_row read_last read_number gcd
    digits
returns-clause-low_zero c = refl

pub returns-clause-high_zero : goal.returns-clause-high_zero
unfolding items_text each_items versioned_in version_in read_field whole_in integer_in fraction_in nonzero_in read_each read_row read_last read_number gcd
    digits
returns-clause-high_zero c = refl

pub returns-clause-low_largest : goal.returns-clause-low_largest
unfolding items_text each_items versioned_in version_in read_field whole_in integer_in fraction_in nonzero_in read_each read_row read_last read_number gcd
    digits
returns-clause-low_largest c = refl

pub returns-clause-high_largest : goal.returns-clause-high_largest
unfolding items_text each_items versioned_in version_in read_field whole_in integer_in fraction_in nonzero_in read_each read_row read_last read_number gcd
    digits
returns-clause-high_largest c = refl

pub returns-clause-low_least : goal.returns-clause-low_least
unfolding items_text each_items versioned_in version_in read_field whole_in integer_in fraction_in nonzero_in read_each read_row read_last read_number gcd
    digits
returns-clause-low_least c = refl

pub returns-clause-high_least : goal.returns-clause-high_least
unfolding items_text each_items versioned_in version_in read_field whole_in integer_in fraction_in nonzero_in read_each read_row read_last read_number gcd
    digits
returns-clause-high_least c = refl

pub returns-clause-low_finest : goal.returns-clause-low_finest
unfolding items_text each_items versioned_in version_in read_field whole_in integer_in fraction_in nonzero_in read_each read_row read_last read_number gcd
    digits
returns-clause-low_finest c = refl

pub returns-clause-high_finest : goal.returns-clause-high_finest
unfolding items_text each_items versioned_in version_in read_field whole_in integer_in fraction_in nonzero_in read_each read_row read_last read_number gcd
    digits
returns-clause-high_finest c = refl
