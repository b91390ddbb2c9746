use Rattle.std.proofs.Common.{refl}
use Rattle.std.specs.Fmt.{digits}
use Rattle.def_fraction.specs.Divisors.{gcd}
use Rattle.def_fraction.specs.Fraction.{fraction_of}
use Rattle.def_file_tokens.specs.Texts.{escaped}
use Rattle.def_cert_text.specs.Fields.{items_text}
use Rattle.def_cert_text.specs.Formats.{each_items}
use Rattle.def_text_laws.proofs.program.texts.leaf_rows.Goals as goal

pub returns : goal.returns
unfolding digits gcd fraction_of escaped items_text each_items
returns c = record { solved = refl; info = refl }
