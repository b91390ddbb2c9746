use Rattle.def_cert_versions.proofs.VersionedVerdict.{upgrades}
use Rattle.def_text_laws.proofs.cert_versions.upgrades_are_accepted.Goals as goal

pub returns : goal.returns
returns c = upgrades
