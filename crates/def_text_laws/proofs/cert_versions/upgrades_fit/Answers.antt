use Rattle.def_cert_versions.proofs.Upgrades.{upgrades_fit as proved}
use Rattle.def_text_laws.proofs.cert_versions.upgrades_fit.Goals as goal

pub returns : goal.returns
returns c = proved
