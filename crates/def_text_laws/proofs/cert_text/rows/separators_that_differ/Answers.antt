use Rattle.std.proofs.Common.{refl}
use Rattle.std.specs.Fmt.{digits}
use Rattle.def_fraction.specs.Divisors.{gcd}
use Rattle.def_cert_text.specs.Fields.{read_field}
use Rattle.def_cert_text.specs.Numbers.{whole_in, integer_in, fraction_in}
use Rattle.def_cert_text.specs.Formats.{read_each, read_number, read_last, read_row}
use Rattle.def_cert_text.specs.CertText.{version_in, versioned_in}
use Rattle.def_text_laws.proofs.cert_text.rows.separators_that_differ.Goals as goal

pub returns-clause-empty_number : goal.returns-clause-empty_number
unfolding versioned_in version_in read_field whole_in integer_in fraction_in read_each read_row read_last read_number gcd digits
returns-clause-empty_number c = refl

pub returns-clause-empty_word : goal.returns-clause-empty_word
unfolding versioned_in version_in read_field whole_in integer_in fraction_in read_each read_row read_last read_number gcd digits
returns-clause-empty_word c = refl

pub returns-clause-empty_line : goal.returns-clause-empty_line
unfolding versioned_in version_in read_field whole_in integer_in fraction_in read_each read_row read_last read_number gcd digits
returns-clause-empty_line c = refl

pub returns-clause-empty_version : goal.returns-clause-empty_version
unfolding versioned_in version_in read_field whole_in integer_in fraction_in read_each read_row read_last read_number gcd digits
returns-clause-empty_version c = refl

pub returns-clause-space_at_the_end : goal.returns-clause-space_at_the_end
unfolding versioned_in version_in read_field whole_in integer_in fraction_in read_each read_row read_last read_number gcd digits
returns-clause-space_at_the_end c = refl

pub returns-clause-line_too_short : goal.returns-clause-line_too_short
unfolding versioned_in version_in read_field whole_in integer_in fraction_in read_each read_row read_last read_number gcd digits
returns-clause-line_too_short c = refl

pub returns-clause-no_weight : goal.returns-clause-no_weight
unfolding versioned_in version_in read_field whole_in integer_in fraction_in read_each read_row read_last read_number gcd digits
returns-clause-no_weight c = refl

pub returns-clause-empty_weight : goal.returns-clause-empty_weight
unfolding versioned_in version_in read_field whole_in integer_in fraction_in read_each read_row read_last read_number gcd digits
returns-clause-empty_weight c = refl

pub returns-clause-no_byte : goal.returns-clause-no_byte
unfolding versioned_in version_in read_field whole_in integer_in fraction_in read_each read_row read_last read_number gcd digits
returns-clause-no_byte c = refl

pub returns-clause-short_of_version_two : goal.returns-clause-short_of_version_two
unfolding versioned_in version_in read_field whole_in integer_in fraction_in read_each read_row read_last read_number gcd digits
returns-clause-short_of_version_two c = refl

pub returns-clause-short_of_another_version : goal.returns-clause-short_of_another_version
unfolding versioned_in version_in read_field whole_in integer_in fraction_in read_each read_row read_last read_number gcd digits
returns-clause-short_of_another_version c = refl

pub returns-clause-short_of_another_word : goal.returns-clause-short_of_another_word
unfolding versioned_in version_in read_field whole_in integer_in fraction_in read_each read_row read_last read_number gcd digits
returns-clause-short_of_another_word c = refl

pub returns-clause-trailing : goal.returns-clause-trailing
unfolding versioned_in version_in read_field whole_in integer_in fraction_in read_each read_row read_last read_number gcd digits
returns-clause-trailing c = refl

pub returns-clause-no_last_feed : goal.returns-clause-no_last_feed
unfolding versioned_in version_in read_field whole_in integer_in fraction_in read_each read_row read_last read_number gcd digits
returns-clause-no_last_feed c = refl
