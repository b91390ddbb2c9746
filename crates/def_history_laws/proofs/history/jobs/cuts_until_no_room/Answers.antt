use Rattle.def_history.proofs.Passes.{cuts_until_no_room as proved}
use Rattle.def_history_laws.proofs.history.jobs.cuts_until_no_room.Goals as goal

pub returns : goal.returns
returns c = proved
