use Rattle.std.proofs.Common.{refl}
use Rattle.std.specs.Fmt.{digits}
use Rattle.def_fraction.specs.Divisors.{gcd}
use Rattle.def_cert_text.specs.Fields.{items_text, read_field}
use Rattle.def_cert_text.specs.Numbers.{whole_in, integer_in, fraction_in, nonzero_in}
use Rattle.def_cert_text.specs.Formats.{each_items, read_each, read_number, read_last, read_row}
use Rattle.def_cert_text.specs.CertText.{version_in, versioned_in}
use Rattle.def_text_laws.proofs.cert_text.version_rows.sums_of_version_two.Goals as goal

pub returns-clause-signed_zero : goal.returns-clause-signed_zero
unfolding items_text each_items versioned_in version_in read_field whole_in integer_in fraction_in nonzero_in read_each read_row read_last read_number gcd
    digits
returns-clause-signed_zero c = refl

pub returns-clause-zero_over_one : goal.returns-clause-zero_over_one
unfolding items_text each_items versioned_in version_in read_field whole_in integer_in fraction_in nonzero_in read_each read_row read_last read_number gcd
    digits
returns-clause-zero_over_one c = refl

pub returns-clause-zero_over_two : goal.returns-clause-zero_over_two
unfolding items_text each_items versioned_in version_in read_field whole_in integer_in fraction_in nonzero_in read_each read_row read_last read_number gcd
    digits
returns-clause-zero_over_two c = refl

pub returns-clause-not_lowest : goal.returns-clause-not_lowest
unfolding items_text each_items versioned_in version_in read_field whole_in integer_in fraction_in nonzero_in read_each read_row read_last read_number gcd
    digits
returns-clause-not_lowest c = refl

pub returns-clause-over_one : goal.returns-clause-over_one
unfolding items_text each_items versioned_in version_in read_field whole_in integer_in fraction_in nonzero_in read_each read_row read_last read_number gcd
    digits
returns-clause-over_one c = refl

pub returns-clause-over_zero : goal.returns-clause-over_zero
unfolding items_text each_items versioned_in version_in read_field whole_in integer_in fraction_in nonzero_in read_each read_row read_last read_number gcd
    digits
returns-clause-over_zero c = refl

pub returns-clause-negative_below : goal.returns-clause-negative_below
unfolding items_text each_items versioned_in version_in read_field whole_in integer_in fraction_in nonzero_in read_each read_row read_last read_number gcd
    digits
returns-clause-negative_below c = refl

pub returns-clause-plus : goal.returns-clause-plus
unfolding items_text each_items versioned_in version_in read_field whole_in integer_in fraction_in nonzero_in read_each read_row read_last read_number gcd
    digits
returns-clause-plus c = refl

pub returns-clause-empty : goal.returns-clause-empty
unfolding items_text each_items versioned_in version_in read_field whole_in integer_in fraction_in nonzero_in read_each read_row read_last read_number gcd
    digits
returns-clause-empty c = refl

pub returns-clause-decimal_point : goal.returns-clause-decimal_point
unfolding items_text each_items versioned_in version_in read_field whole_in integer_in fraction_in nonzero_in read_each read_row read_last read_number gcd
    digits
returns-clause-decimal_point c = refl

pub returns-clause-past_the_limit : goal.returns-clause-past_the_limit
unfolding items_text each_items versioned_in version_in read_field whole_in integer_in fraction_in nonzero_in read_each read_row read_last read_number gcd
    digits
returns-clause-past_the_limit c = refl

pub returns-clause-past_the_limit_below_zero : goal.returns-clause-past_the_limit_below_zero
unfolding items_text each_items versioned_in version_in read_field whole_in integer_in fraction_in nonzero_in read_each read_row read_last read_number gcd
    digits
returns-clause-past_the_limit_below_zero c = refl

pub returns-clause-too_fine : goal.returns-clause-too_fine
unfolding items_text each_items versioned_in version_in read_field whole_in integer_in fraction_in nonzero_in read_each read_row read_last read_number gcd
    digits
returns-clause-too_fine c = refl

pub returns-clause-zero : goal.returns-clause-zero
unfolding items_text each_items versioned_in version_in read_field whole_in integer_in fraction_in nonzero_in read_each read_row read_last read_number gcd
    digits
returns-clause-zero c = refl

pub returns-clause-largest : goal.returns-clause-largest
unfolding items_text each_items versioned_in version_in read_field whole_in integer_in fraction_in nonzero_in read_each read_row read_last read_number gcd
    digits
returns-clause-largest c = refl

pub returns-clause-least : goal.returns-clause-least
unfolding items_text each_items versioned_in version_in read_field whole_in integer_in fraction_in nonzero_in read_each read_row read_last read_number gcd
    digits
returns-clause-least c = refl

pub returns-clause-finest : goal.returns-clause-finest
unfolding items_text each_items versioned_in version_in read_field whole_in integer_in fraction_in nonzero_in read_each read_row read_last read_number gcd
    digits
returns-clause-finest c = refl

pub returns-clause-largest_parts : goal.returns-clause-largest_parts
unfolding items_text each_items versioned_in version_in read_field whole_in integer_in fraction_in nonzero_in read_each read_row read_last read_number gcd
    digits
returns-clause-largest_parts c = refl
