use Rattle.def_cert_accepted.proofs.Outcomes.{outcomes_have_bounds}
use Rattle.def_text_laws.proofs.cert_accepted.outcomes_have_their_bounds.Goals as goal

pub returns : goal.returns
returns c = outcomes_have_bounds
