use Rattle.def_program_laws.proofs.Solved.{drill_accepts}
use Rattle.def_program_laws.proofs.solve_check.what_drill_writes_check_accepts.Goals as goal

pub returns : goal.returns
returns c = drill_accepts
