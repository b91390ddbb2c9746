use Rattle.std.proofs.Common.{refl}
use Rattle.std.specs.Fmt.{digits}
use Rattle.def_fraction.specs.Divisors.{gcd}
use Rattle.def_cert_text.specs.Fields.{items_text, read_field}
use Rattle.def_cert_text.specs.Numbers.{whole_in, integer_in, fraction_in, nonzero_in}
use Rattle.def_cert_text.specs.Formats.{read_each, read_number, read_last, read_row}
use Rattle.def_cert_text.specs.CertText.{version_in, versioned_in}
use Rattle.def_text_laws.proofs.cert_text.rows.sums_behind_the_unit.Goals as goal

pub returns-clause-whole : goal.returns-clause-whole
unfolding items_text versioned_in version_in read_field whole_in integer_in fraction_in nonzero_in read_each read_row read_last read_number gcd digits
returns-clause-whole c = refl

pub returns-clause-below_zero : goal.returns-clause-below_zero
unfolding items_text versioned_in version_in read_field whole_in integer_in fraction_in nonzero_in read_each read_row read_last read_number gcd digits
returns-clause-below_zero c = refl

pub returns-clause-largest : goal.returns-clause-largest
unfolding items_text versioned_in version_in read_field whole_in integer_in fraction_in nonzero_in read_each read_row read_last read_number gcd digits
returns-clause-largest c = refl

pub returns-clause-written : goal.returns-clause-written
unfolding items_text versioned_in version_in read_field whole_in integer_in fraction_in nonzero_in read_each read_row read_last read_number gcd digits
returns-clause-written c = refl

pub returns-clause-zero : goal.returns-clause-zero
unfolding items_text versioned_in version_in read_field whole_in integer_in fraction_in nonzero_in read_each read_row read_last read_number gcd digits
returns-clause-zero c = refl

pub returns-clause-not_lowest : goal.returns-clause-not_lowest
unfolding items_text versioned_in version_in read_field whole_in integer_in fraction_in nonzero_in read_each read_row read_last read_number gcd digits
returns-clause-not_lowest c = refl

pub returns-clause-too_large : goal.returns-clause-too_large
unfolding items_text versioned_in version_in read_field whole_in integer_in fraction_in nonzero_in read_each read_row read_last read_number gcd digits
returns-clause-too_large c = refl

pub returns-clause-too_fine : goal.returns-clause-too_fine
unfolding items_text versioned_in version_in read_field whole_in integer_in fraction_in nonzero_in read_each read_row read_last read_number gcd digits
returns-clause-too_fine c = refl

pub returns-clause-plus : goal.returns-clause-plus
unfolding items_text versioned_in version_in read_field whole_in integer_in fraction_in nonzero_in read_each read_row read_last read_number gcd digits
returns-clause-plus c = refl

pub returns-clause-no_sum : goal.returns-clause-no_sum
unfolding items_text versioned_in version_in read_field whole_in integer_in fraction_in nonzero_in read_each read_row read_last read_number gcd digits
returns-clause-no_sum c = refl

pub returns-clause-word_alone : goal.returns-clause-word_alone
unfolding items_text versioned_in version_in read_field whole_in integer_in fraction_in nonzero_in read_each read_row read_last read_number gcd digits
returns-clause-word_alone c = refl

pub returns-clause-other_word : goal.returns-clause-other_word
unfolding items_text versioned_in version_in read_field whole_in integer_in fraction_in nonzero_in read_each read_row read_last read_number gcd digits
returns-clause-other_word c = refl

pub returns-clause-no_word : goal.returns-clause-no_word
unfolding items_text versioned_in version_in read_field whole_in integer_in fraction_in nonzero_in read_each read_row read_last read_number gcd digits
returns-clause-no_word c = refl

pub returns-clause-a_space_more : goal.returns-clause-a_space_more
unfolding items_text versioned_in version_in read_field whole_in integer_in fraction_in nonzero_in read_each read_row read_last read_number gcd digits
returns-clause-a_space_more c = refl

pub returns-clause-other_unit : goal.returns-clause-other_unit
unfolding items_text versioned_in version_in read_field whole_in integer_in fraction_in nonzero_in read_each read_row read_last read_number gcd digits
returns-clause-other_unit c = refl

pub returns-clause-short : goal.returns-clause-short
unfolding items_text versioned_in version_in read_field whole_in integer_in fraction_in nonzero_in read_each read_row read_last read_number gcd digits
returns-clause-short c = refl
