use Rattle.def_run.proofs.RunLaws.{outcomes_show_their_run}
use Rattle.def_round_laws.proofs.run.outcomes_show_their_run.Goals as goal

pub returns : goal.returns
returns c = outcomes_show_their_run
