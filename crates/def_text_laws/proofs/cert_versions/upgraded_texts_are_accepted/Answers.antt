use Rattle.def_cert_versions.proofs.Upgrades.{upgraded_texts as proved}
use Rattle.def_text_laws.proofs.cert_versions.upgraded_texts_are_accepted.Goals as goal

pub returns : goal.returns
returns c = proved
