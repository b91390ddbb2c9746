use Rattle.def_check.proofs.FileAccepted.{accepted_whole_file}
use Rattle.def_text_laws.proofs.check.accepting.accepted_without_fault.Goals as goal

pub returns : goal.returns
returns c = accepted_whole_file
