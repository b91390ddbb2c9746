use Rattle.def_plus.proofs.Multiples.{plans_are_added_times}
use Rattle.def_round_laws.proofs.plus.plans_are_added_times.Goals as goal

pub returns : goal.returns
returns c = plans_are_added_times
