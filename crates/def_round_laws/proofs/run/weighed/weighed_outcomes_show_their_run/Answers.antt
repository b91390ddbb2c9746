use Rattle.def_run.proofs.WeighedOutcomes.{weighed_outcomes_show_their_run}
use Rattle.def_round_laws.proofs.run.weighed.weighed_outcomes_show_their_run.Goals as goal

pub returns : goal.returns
returns c = weighed_outcomes_show_their_run
