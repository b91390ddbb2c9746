use Rattle.def_plus_run.proofs.PlusRuns.{plus_offers_are_fair}
use Rattle.def_round_laws.proofs.plus_run.plus_offers_are_fair.Goals as goal

pub returns : goal.returns
returns c = plus_offers_are_fair
