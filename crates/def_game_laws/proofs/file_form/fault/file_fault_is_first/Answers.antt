use Rattle.def_file_form.proofs.ReportedFaultIsFirst.{fault_first}
use Rattle.def_game_laws.proofs.file_form.fault.file_fault_is_first.Goals as goal

pub returns : goal.returns
returns c = fault_first
