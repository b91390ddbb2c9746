use Rattle.def_cert_accepted.proofs.Accepted.{accepted}
use Rattle.def_text_laws.proofs.cert_accepted.the_certificate_of_a_run_is_accepted.Goals as goal

pub returns : goal.returns
returns c = accepted
