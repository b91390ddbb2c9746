use Rattle.def_program.proofs.Checked.{upgraded_is}
use Rattle.def_text_laws.proofs.program.upgrades_are_written.Goals as goal

pub returns : goal.returns
returns c = upgraded_is
