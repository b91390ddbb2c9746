use Rattle.def_cert_verdict.proofs.VerdictIsExact.{exact}
use Rattle.def_text_laws.proofs.cert_verdict.laws.acceptance_is_exact.Goals as goal

pub returns : goal.returns
returns c = exact
