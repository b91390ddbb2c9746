use Rattle.def_cert_text.proofs.OtherVersions.{other_versions}
use Rattle.def_text_laws.proofs.cert_text.other_versions_are_refused.Goals as goal

pub returns : goal.returns
returns c = other_versions
