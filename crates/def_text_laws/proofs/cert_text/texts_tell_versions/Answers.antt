use Rattle.def_cert_text.proofs.TextLaws.{versioned_tell}
use Rattle.def_text_laws.proofs.cert_text.texts_tell_versions.Goals as goal

pub returns : goal.returns
returns c = versioned_tell
