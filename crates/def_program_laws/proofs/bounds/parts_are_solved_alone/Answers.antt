use Rattle.def_program_laws.proofs.Successes.{solved_alone}
use Rattle.def_program_laws.proofs.bounds.parts_are_solved_alone.Goals as goal

pub returns : goal.returns
returns c = solved_alone
