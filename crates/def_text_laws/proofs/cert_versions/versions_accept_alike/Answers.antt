use Rattle.def_cert_versions.proofs.VersionedVerdict.{accept_alike}
use Rattle.def_text_laws.proofs.cert_versions.versions_accept_alike.Goals as goal

pub returns : goal.returns
returns c = accept_alike
