use Rattle.def_history.proofs.Locks.{legal_replays_are_small}
use Rattle.def_history_laws.proofs.history.legal_replays_are_small.Goals as goal

pub returns : goal.returns
returns c = legal_replays_are_small
