use Rattle.def_payoffs.proofs.OneValue.{one_value}
use Rattle.def_game_laws.proofs.payoffs.ranges_have_one_value.Goals as goal

pub returns : goal.returns
returns c = one_value
