use Rattle.def_file.proofs.EntryFaults.{entry_fault_is_first_broken}
use Rattle.def_game_laws.proofs.file.entries.entry_fault_is_first_broken.Goals as goal

pub returns : goal.returns
returns c = entry_fault_is_first_broken
