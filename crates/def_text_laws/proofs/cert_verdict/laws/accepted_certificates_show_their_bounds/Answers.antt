use Rattle.def_cert_verdict.proofs.Shown.{accepted}
use Rattle.def_text_laws.proofs.cert_verdict.laws.accepted_certificates_show_their_bounds.Goals as goal

pub returns : goal.returns
returns c = accepted
