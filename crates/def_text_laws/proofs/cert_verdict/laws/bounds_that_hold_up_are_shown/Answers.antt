use Rattle.def_cert_verdict.proofs.Shown.{shown_where_they_hold}
use Rattle.def_text_laws.proofs.cert_verdict.laws.bounds_that_hold_up_are_shown.Goals as goal

pub returns : goal.returns
returns c = shown_where_they_hold
