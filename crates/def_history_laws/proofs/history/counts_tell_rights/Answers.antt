use Rattle.def_history.proofs.Locks.{counts_tell_rights}
use Rattle.def_history_laws.proofs.history.counts_tell_rights.Goals as goal

pub returns : goal.returns
returns c = counts_tell_rights
