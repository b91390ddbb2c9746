use Rattle.def_round.proofs.Gains.{own_sums_gain}
use Rattle.def_round_laws.proofs.round.own_sums_gain_what_is_paid.Goals as goal

pub returns : goal.returns
returns c = own_sums_gain
