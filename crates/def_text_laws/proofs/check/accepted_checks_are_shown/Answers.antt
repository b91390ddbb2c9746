use Rattle.def_check.proofs.Checked.{checks_show}
use Rattle.def_text_laws.proofs.check.accepted_checks_are_shown.Goals as goal

pub returns : goal.returns
returns c = checks_show
