use Rattle.def_cert_text.proofs.TextLaws.{first_versioned_fault}
use Rattle.def_text_laws.proofs.cert_text.first_versioned_fault_decides.Goals as goal

pub returns : goal.returns
returns c = first_versioned_fault
