use Rattle.def_run.proofs.RunLaws.{ends_are_of_their_rounds}
use Rattle.def_round_laws.proofs.run.ends_are_of_their_rounds.Goals as goal

pub returns : goal.returns
returns c = ends_are_of_their_rounds
