use Rattle.def_program_laws.proofs.Solved.{check_accepts}
use Rattle.def_program_laws.proofs.solve_check.what_solve_writes_check_accepts.Goals as goal

pub returns : goal.returns
returns c = check_accepts
