use Rattle.std.proofs.Common.{refl}
use Rattle.std.specs.Fmt.{digits}
use Rattle.def_cert_text.specs.Fields.{items_text}
use Rattle.def_cert_text.specs.Formats.{each_items}
use Rattle.def_text_laws.proofs.cert_text.rows.kuhn_text.Goals as goal

pub returns : goal.returns
unfolding digits each_items items_text
returns c = refl
