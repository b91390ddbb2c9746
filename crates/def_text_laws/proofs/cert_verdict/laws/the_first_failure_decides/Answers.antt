use Rattle.def_cert_verdict.proofs.FirstFailure.{first_failure}
use Rattle.def_text_laws.proofs.cert_verdict.laws.the_first_failure_decides.Goals as goal

pub returns : goal.returns
returns c = first_failure
