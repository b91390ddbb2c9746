use Rattle.std.proofs.Common.{refl}
use Rattle.std.specs.Fmt.{digits}
use Rattle.def_fraction.specs.Divisors.{gcd}
use Rattle.def_cert_text.specs.Fields.{read_field}
use Rattle.def_cert_text.specs.Numbers.{whole_in, integer_in, fraction_in}
use Rattle.def_cert_text.specs.Formats.{read_each, read_number, read_last, read_row}
use Rattle.def_text_laws.proofs.cert_text.rows.full_rows.Goals as goal

pub returns-clause-one : goal.returns-clause-one
unfolding read_field whole_in integer_in fraction_in read_each read_row read_last read_number gcd digits
returns-clause-one c = refl

pub returns-clause-two : goal.returns-clause-two
unfolding read_field whole_in integer_in fraction_in read_each read_row read_last read_number gcd digits
returns-clause-two c = refl

pub returns-clause-three : goal.returns-clause-three
unfolding read_field whole_in integer_in fraction_in read_each read_row read_last read_number gcd digits
returns-clause-three c = refl

pub returns-clause-largest : goal.returns-clause-largest
unfolding read_field whole_in integer_in fraction_in read_each read_row read_last read_number gcd digits
returns-clause-largest c = refl

pub returns-clause-too_large : goal.returns-clause-too_large
unfolding read_field whole_in integer_in fraction_in read_each read_row read_last read_number gcd digits
returns-clause-too_large c = refl
