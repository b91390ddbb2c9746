use Rattle.std.proofs.Common.{refl}
use Rattle.std.specs.Fmt.{digits}
use Rattle.def_fraction.specs.Divisors.{gcd}
use Rattle.def_cert_text.specs.Fields.{items_text, read_field}
use Rattle.def_cert_text.specs.Numbers.{whole_in, integer_in, fraction_in, nonzero_in}
use Rattle.def_cert_text.specs.Formats.{each_items, read_each, read_number, read_last, read_row}
use Rattle.def_cert_text.specs.CertText.{version_in, versioned_in}
use Rattle.def_text_laws.proofs.cert_text.plus_rows.plus_texts.Goals as goal

pub returns-clause-six_rounds : goal.returns-clause-six_rounds
unfolding digits each_items items_text
returns-clause-six_rounds c = refl

pub returns-clause-one_leaf : goal.returns-clause-one_leaf
unfolding digits each_items items_text
returns-clause-one_leaf c = refl

pub returns-clause-no_round : goal.returns-clause-no_round
unfolding digits each_items items_text
returns-clause-no_round c = refl

pub returns-clause-no_certificate : goal.returns-clause-no_certificate
unfolding items_text each_items versioned_in version_in read_field whole_in integer_in fraction_in nonzero_in read_each read_row read_last read_number gcd
    digits
returns-clause-no_certificate c = refl

pub returns-clause-as_certificate : goal.returns-clause-as_certificate
unfolding items_text each_items versioned_in version_in read_field whole_in integer_in fraction_in nonzero_in read_each read_row read_last read_number gcd
    digits
returns-clause-as_certificate c = refl
