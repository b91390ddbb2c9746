use Rattle.def_round.proofs.Averages.{set_values_are_averages}
use Rattle.def_round_laws.proofs.round.set_values_are_averages.Goals as goal

pub returns : goal.returns
returns c = set_values_are_averages
