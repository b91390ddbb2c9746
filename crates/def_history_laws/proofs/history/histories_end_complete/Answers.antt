use Rattle.def_history.proofs.Ends.{ends_complete}
use Rattle.def_history_laws.proofs.history.histories_end_complete.Goals as goal

pub returns : goal.returns
returns c = ends_complete
