use Rattle.def_command.proofs.InRange.{settings_in_range}
use Rattle.def_text_laws.proofs.command.settings_are_in_range.Goals as goal

pub returns : goal.returns
returns c = settings_in_range
