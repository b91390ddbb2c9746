use Rattle.def_close.proofs.Plans.{plans_accepted}
use Rattle.def_close.proofs.certificates_of_plans_are_accepted.Goals as goal

pub returns : goal.returns
returns c = plans_accepted
