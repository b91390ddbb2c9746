use Rattle.def_run.proofs.WeighedOutcomes.{weighed_offers_are_fair}
use Rattle.def_round_laws.proofs.run.weighed.weighed_offers_are_fair.Goals as goal

pub returns : goal.returns
returns c = weighed_offers_are_fair
