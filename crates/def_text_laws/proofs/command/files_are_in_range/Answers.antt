use Rattle.def_command.proofs.InRange.{files_in_range}
use Rattle.def_text_laws.proofs.command.files_are_in_range.Goals as goal

pub returns : goal.returns
returns c = files_in_range
