use Rattle.def_close.proofs.Plans.{plans_fit}
use Rattle.def_close.proofs.certificates_of_plans_fit.Goals as goal

pub returns : goal.returns
returns c = plans_fit
