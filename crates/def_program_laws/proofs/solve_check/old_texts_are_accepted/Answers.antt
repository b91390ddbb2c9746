use Rattle.def_program_laws.proofs.Solved.{old_accepted}
use Rattle.def_program_laws.proofs.solve_check.old_texts_are_accepted.Goals as goal

pub returns : goal.returns
returns c = old_accepted
