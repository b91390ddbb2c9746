use Rattle.def_constant_sum.proofs.Turning.{bounds_in_weights as proved}
use Rattle.def_strategy_laws.proofs.constant_sum.bounds_in_weights.Goals as goal

pub returns : goal.returns
returns c = proved
