use Rattle.std.proofs.Common.{refl}
use Rattle.std.specs.Fmt.{digits}
use Rattle.def_fraction.specs.Divisors.{gcd}
use Rattle.def_cert_text.specs.Fields.{read_field}
use Rattle.def_cert_text.specs.Numbers.{whole_in, integer_in, fraction_in}
use Rattle.def_cert_text.specs.Formats.{read_each, read_number, read_last, read_row}
use Rattle.def_cert_text.specs.CertText.{version_in, versioned_in}
use Rattle.def_text_laws.proofs.cert_text.rows.fields_that_differ.Goals as goal

pub returns-clause-unchanged : goal.returns-clause-unchanged
unfolding versioned_in version_in read_field whole_in integer_in fraction_in read_each read_row read_last read_number gcd digits
returns-clause-unchanged c = refl

pub returns-clause-a_line_more : goal.returns-clause-a_line_more
unfolding versioned_in version_in read_field whole_in integer_in fraction_in read_each read_row read_last read_number gcd digits
returns-clause-a_line_more c = refl

pub returns-clause-other_word : goal.returns-clause-other_word
unfolding versioned_in version_in read_field whole_in integer_in fraction_in read_each read_row read_last read_number gcd digits
returns-clause-other_word c = refl

pub returns-clause-other_player : goal.returns-clause-other_player
unfolding versioned_in version_in read_field whole_in integer_in fraction_in read_each read_row read_last read_number gcd digits
returns-clause-other_player c = refl

pub returns-clause-version_two : goal.returns-clause-version_two
unfolding versioned_in version_in read_field whole_in integer_in fraction_in read_each read_row read_last read_number gcd digits
returns-clause-version_two c = refl

pub returns-clause-other_version : goal.returns-clause-other_version
unfolding versioned_in version_in read_field whole_in integer_in fraction_in read_each read_row read_last read_number gcd digits
returns-clause-other_version c = refl

pub returns-clause-padded_version : goal.returns-clause-padded_version
unfolding versioned_in version_in read_field whole_in integer_in fraction_in read_each read_row read_last read_number gcd digits
returns-clause-padded_version c = refl

pub returns-clause-not_lowest : goal.returns-clause-not_lowest
unfolding versioned_in version_in read_field whole_in integer_in fraction_in read_each read_row read_last read_number gcd digits
returns-clause-not_lowest c = refl

pub returns-clause-signed_zero : goal.returns-clause-signed_zero
unfolding versioned_in version_in read_field whole_in integer_in fraction_in read_each read_row read_last read_number gcd digits
returns-clause-signed_zero c = refl

pub returns-clause-root_zero : goal.returns-clause-root_zero
unfolding versioned_in version_in read_field whole_in integer_in fraction_in read_each read_row read_last read_number gcd digits
returns-clause-root_zero c = refl
