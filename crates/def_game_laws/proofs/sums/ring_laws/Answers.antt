use Rattle.def_sums.proofs.RingLaws.{ring_laws}
use Rattle.def_game_laws.proofs.sums.ring_laws.Goals as goal

pub returns : goal.returns
returns c = ring_laws
