use Rattle.def_program_laws.proofs.Successes.{of_one_check}
use Rattle.def_program_laws.proofs.bounds.success_is_of_one_check.Goals as goal

pub returns : goal.returns
returns c = of_one_check
