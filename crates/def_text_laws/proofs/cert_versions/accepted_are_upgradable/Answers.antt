use Rattle.def_cert_versions.proofs.Upgrades.{upgradable as proved}
use Rattle.def_text_laws.proofs.cert_versions.accepted_are_upgradable.Goals as goal

pub returns : goal.returns
returns c = proved
