use Rattle.def_cert_text.proofs.TextLaws.{versioned_reading}
use Rattle.def_text_laws.proofs.cert_text.versioned_reading_is_exact.Goals as goal

pub returns : goal.returns
returns c = versioned_reading
