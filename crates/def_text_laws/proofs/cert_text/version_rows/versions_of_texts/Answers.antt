use Rattle.std.proofs.Common.{refl}
use Rattle.std.specs.Fmt.{digits}
use Rattle.def_fraction.specs.Divisors.{gcd}
use Rattle.def_cert_text.specs.Fields.{items_text, read_field}
use Rattle.def_cert_text.specs.Numbers.{whole_in, integer_in, fraction_in, nonzero_in}
use Rattle.def_cert_text.specs.Formats.{each_items, read_each, read_number, read_last, read_row}
use Rattle.def_cert_text.specs.CertText.{version_in, versioned_in}
use Rattle.def_text_laws.proofs.cert_text.version_rows.versions_of_texts.Goals as goal

pub returns-clause-version_one : goal.returns-clause-version_one
unfolding items_text each_items versioned_in version_in read_field whole_in integer_in fraction_in nonzero_in read_each read_row read_last read_number gcd
    digits
returns-clause-version_one c = refl

pub returns-clause-version_two : goal.returns-clause-version_two
unfolding items_text each_items versioned_in version_in read_field whole_in integer_in fraction_in nonzero_in read_each read_row read_last read_number gcd
    digits
returns-clause-version_two c = refl

pub returns-clause-zero : goal.returns-clause-zero
unfolding items_text each_items versioned_in version_in read_field whole_in integer_in fraction_in nonzero_in read_each read_row read_last read_number gcd
    digits
returns-clause-zero c = refl

pub returns-clause-three : goal.returns-clause-three
unfolding items_text each_items versioned_in version_in read_field whole_in integer_in fraction_in nonzero_in read_each read_row read_last read_number gcd
    digits
returns-clause-three c = refl

pub returns-clause-padded : goal.returns-clause-padded
unfolding items_text each_items versioned_in version_in read_field whole_in integer_in fraction_in nonzero_in read_each read_row read_last read_number gcd
    digits
returns-clause-padded c = refl

pub returns-clause-decimal_point : goal.returns-clause-decimal_point
unfolding items_text each_items versioned_in version_in read_field whole_in integer_in fraction_in nonzero_in read_each read_row read_last read_number gcd
    digits
returns-clause-decimal_point c = refl

pub returns-clause-negative : goal.returns-clause-negative
unfolding items_text each_items versioned_in version_in read_field whole_in integer_in fraction_in nonzero_in read_each read_row read_last read_number gcd
    digits
returns-clause-negative c = refl

pub returns-clause-plus : goal.returns-clause-plus
unfolding items_text each_items versioned_in version_in read_field whole_in integer_in fraction_in nonzero_in read_each read_row read_last read_number gcd
    digits
returns-clause-plus c = refl

pub returns-clause-over_one : goal.returns-clause-over_one
unfolding items_text each_items versioned_in version_in read_field whole_in integer_in fraction_in nonzero_in read_each read_row read_last read_number gcd
    digits
returns-clause-over_one c = refl

pub returns-clause-empty : goal.returns-clause-empty
unfolding items_text each_items versioned_in version_in read_field whole_in integer_in fraction_in nonzero_in read_each read_row read_last read_number gcd
    digits
returns-clause-empty c = refl

pub returns-clause-word : goal.returns-clause-word
unfolding items_text each_items versioned_in version_in read_field whole_in integer_in fraction_in nonzero_in read_each read_row read_last read_number gcd
    digits
returns-clause-word c = refl

pub returns-clause-twelve : goal.returns-clause-twelve
unfolding items_text each_items versioned_in version_in read_field whole_in integer_in fraction_in nonzero_in read_each read_row read_last read_number gcd
    digits
returns-clause-twelve c = refl

pub returns-clause-three_alone : goal.returns-clause-three_alone
unfolding items_text each_items versioned_in version_in read_field whole_in integer_in fraction_in nonzero_in read_each read_row read_last read_number gcd
    digits
returns-clause-three_alone c = refl

pub returns-clause-two_alone : goal.returns-clause-two_alone
unfolding items_text each_items versioned_in version_in read_field whole_in integer_in fraction_in nonzero_in read_each read_row read_last read_number gcd
    digits
returns-clause-two_alone c = refl

pub returns-clause-a_field_more : goal.returns-clause-a_field_more
unfolding items_text each_items versioned_in version_in read_field whole_in integer_in fraction_in nonzero_in read_each read_row read_last read_number gcd
    digits
returns-clause-a_field_more c = refl

pub returns-clause-two_says_one : goal.returns-clause-two_says_one
unfolding items_text each_items versioned_in version_in read_field whole_in integer_in fraction_in nonzero_in read_each read_row read_last read_number gcd
    digits
returns-clause-two_says_one c = refl

pub returns-clause-one_says_two : goal.returns-clause-one_says_two
unfolding items_text each_items versioned_in version_in read_field whole_in integer_in fraction_in nonzero_in read_each read_row read_last read_number gcd
    digits
returns-clause-one_says_two c = refl

pub returns-clause-one_without_sum_says_two : goal.returns-clause-one_without_sum_says_two
unfolding items_text each_items versioned_in version_in read_field whole_in integer_in fraction_in nonzero_in read_each read_row read_last read_number gcd
    digits
returns-clause-one_without_sum_says_two c = refl

pub returns-clause-other_word : goal.returns-clause-other_word
unfolding items_text each_items versioned_in version_in read_field whole_in integer_in fraction_in nonzero_in read_each read_row read_last read_number gcd
    digits
returns-clause-other_word c = refl
