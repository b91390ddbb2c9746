use Rattle.def_program_laws.proofs.Solved.{solved_short}
use Rattle.def_program_laws.proofs.solve_check.solved_texts_are_short.Goals as goal

pub returns : goal.returns
returns c = solved_short
