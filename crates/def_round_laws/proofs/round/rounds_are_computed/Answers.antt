use Rattle.def_round.proofs.Regrets.{rounds_are_computed}
use Rattle.def_round_laws.proofs.round.rounds_are_computed.Goals as goal

pub returns : goal.returns
returns c = rounds_are_computed
