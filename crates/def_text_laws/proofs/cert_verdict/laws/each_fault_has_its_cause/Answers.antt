use Rattle.def_cert_verdict.proofs.VerdictIsExact.{causes}
use Rattle.def_text_laws.proofs.cert_verdict.laws.each_fault_has_its_cause.Goals as goal

pub returns : goal.returns
returns c = causes
