use Rattle.def_program_laws.proofs.Solved.{plus_refused}
use Rattle.def_program_laws.proofs.solve_check.plus_texts_are_refused.Goals as goal

pub returns : goal.returns
returns c = plus_refused
