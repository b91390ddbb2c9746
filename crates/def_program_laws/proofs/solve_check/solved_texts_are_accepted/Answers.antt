use Rattle.def_program_laws.proofs.Solved.{solved_accepted}
use Rattle.def_program_laws.proofs.solve_check.solved_texts_are_accepted.Goals as goal

pub returns : goal.returns
returns c = solved_accepted
