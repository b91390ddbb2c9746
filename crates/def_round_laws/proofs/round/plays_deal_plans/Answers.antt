use Rattle.def_round.proofs.Plays.{plays_deal_plans}
use Rattle.def_round_laws.proofs.round.plays_deal_plans.Goals as goal

pub returns : goal.returns
returns c = plays_deal_plans
