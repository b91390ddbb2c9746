use Rattle.def_round.proofs.Plays.{positive_parts_are_exact}
use Rattle.def_round_laws.proofs.round.positive_parts_are_exact.Goals as goal

pub returns : goal.returns
returns c = positive_parts_are_exact
