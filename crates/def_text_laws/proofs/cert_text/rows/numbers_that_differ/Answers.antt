use Rattle.std.proofs.Common.{refl}
use Rattle.std.specs.Fmt.{digits}
use Rattle.def_fraction.specs.Divisors.{gcd}
use Rattle.def_cert_text.specs.Fields.{read_field}
use Rattle.def_cert_text.specs.Numbers.{whole_in, integer_in, fraction_in}
use Rattle.def_cert_text.specs.Formats.{read_each, read_number, read_last, read_row}
use Rattle.def_cert_text.specs.CertText.{version_in, versioned_in}
use Rattle.def_text_laws.proofs.cert_text.rows.numbers_that_differ.Goals as goal

pub returns-clause-no_node : goal.returns-clause-no_node
unfolding versioned_in version_in read_field whole_in integer_in fraction_in read_each read_row read_last read_number gcd digits
returns-clause-no_node c = refl

pub returns-clause-many_nodes : goal.returns-clause-many_nodes
unfolding versioned_in version_in read_field whole_in integer_in fraction_in read_each read_row read_last read_number gcd digits
returns-clause-many_nodes c = refl

pub returns-clause-leading_zero : goal.returns-clause-leading_zero
unfolding versioned_in version_in read_field whole_in integer_in fraction_in read_each read_row read_last read_number gcd digits
returns-clause-leading_zero c = refl

pub returns-clause-plus : goal.returns-clause-plus
unfolding versioned_in version_in read_field whole_in integer_in fraction_in read_each read_row read_last read_number gcd digits
returns-clause-plus c = refl

pub returns-clause-large_mass : goal.returns-clause-large_mass
unfolding versioned_in version_in read_field whole_in integer_in fraction_in read_each read_row read_last read_number gcd digits
returns-clause-large_mass c = refl

pub returns-clause-every_zero : goal.returns-clause-every_zero
unfolding versioned_in version_in read_field whole_in integer_in fraction_in read_each read_row read_last read_number gcd digits
returns-clause-every_zero c = refl

pub returns-clause-other_round : goal.returns-clause-other_round
unfolding versioned_in version_in read_field whole_in integer_in fraction_in read_each read_row read_last read_number gcd digits
returns-clause-other_round c = refl

pub returns-clause-later_round : goal.returns-clause-later_round
unfolding versioned_in version_in read_field whole_in integer_in fraction_in read_each read_row read_last read_number gcd digits
returns-clause-later_round c = refl

pub returns-clause-minus_alone : goal.returns-clause-minus_alone
unfolding versioned_in version_in read_field whole_in integer_in fraction_in read_each read_row read_last read_number gcd digits
returns-clause-minus_alone c = refl

pub returns-clause-other_set : goal.returns-clause-other_set
unfolding versioned_in version_in read_field whole_in integer_in fraction_in read_each read_row read_last read_number gcd digits
returns-clause-other_set c = refl

pub returns-clause-negative_weight : goal.returns-clause-negative_weight
unfolding versioned_in version_in read_field whole_in integer_in fraction_in read_each read_row read_last read_number gcd digits
returns-clause-negative_weight c = refl

pub returns-clause-no_choice : goal.returns-clause-no_choice
unfolding versioned_in version_in read_field whole_in integer_in fraction_in read_each read_row read_last read_number gcd digits
returns-clause-no_choice c = refl

pub returns-clause-common_factor : goal.returns-clause-common_factor
unfolding versioned_in version_in read_field whole_in integer_in fraction_in read_each read_row read_last read_number gcd digits
returns-clause-common_factor c = refl

pub returns-clause-whole_over_one : goal.returns-clause-whole_over_one
unfolding versioned_in version_in read_field whole_in integer_in fraction_in read_each read_row read_last read_number gcd digits
returns-clause-whole_over_one c = refl

pub returns-clause-negative_below : goal.returns-clause-negative_below
unfolding versioned_in version_in read_field whole_in integer_in fraction_in read_each read_row read_last read_number gcd digits
returns-clause-negative_below c = refl

pub returns-clause-two_slashes : goal.returns-clause-two_slashes
unfolding versioned_in version_in read_field whole_in integer_in fraction_in read_each read_row read_last read_number gcd digits
returns-clause-two_slashes c = refl
