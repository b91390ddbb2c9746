use Rattle.def_file.proofs.EntryFaults.{no_fault_breaks_none}
use Rattle.def_game_laws.proofs.file.entries.no_fault_breaks_none.Goals as goal

pub returns : goal.returns
returns c = no_fault_breaks_none
