use Rattle.def_run.proofs.RunLaws.{offers_of_run_are_fair}
use Rattle.def_round_laws.proofs.run.offers_of_run_are_fair.Goals as goal

pub returns : goal.returns
returns c = offers_of_run_are_fair
