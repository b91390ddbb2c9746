use Rattle.def_file_form.proofs.FirstFaultIsReported.{first_faulted}
use Rattle.def_game_laws.proofs.file_form.fault.first_is_file_fault.Goals as goal

pub returns : goal.returns
returns c = first_faulted
