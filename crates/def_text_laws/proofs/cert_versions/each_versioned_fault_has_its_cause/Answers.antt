use Rattle.def_cert_versions.proofs.VersionedVerdict.{versioned_causes}
use Rattle.def_text_laws.proofs.cert_versions.each_versioned_fault_has_its_cause.Goals as goal

pub returns : goal.returns
returns c = versioned_causes
