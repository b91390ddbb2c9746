use Rattle.def_cert_versions.proofs.VersionedVerdict.{old_verdicts}
use Rattle.def_text_laws.proofs.cert_versions.old_verdicts_stay.Goals as goal

pub returns : goal.returns
returns c = old_verdicts
