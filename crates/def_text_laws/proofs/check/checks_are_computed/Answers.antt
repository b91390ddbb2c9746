use Rattle.def_check.proofs.Checked.{checks_are}
use Rattle.def_text_laws.proofs.check.checks_are_computed.Goals as goal

pub returns : goal.returns
returns c = checks_are
