use Rattle.def_constant_sum.proofs.Turning.{each_bounds_the_other as proved}
use Rattle.def_strategy_laws.proofs.constant_sum.each_bounds_the_other.Goals as goal

pub returns : goal.returns
returns c = proved
