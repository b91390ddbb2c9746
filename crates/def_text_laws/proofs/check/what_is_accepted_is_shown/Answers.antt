use Rattle.def_check.proofs.Accepted.{what_is_shown}
use Rattle.def_text_laws.proofs.check.what_is_accepted_is_shown.Goals as goal

pub returns : goal.returns
returns c = what_is_shown
