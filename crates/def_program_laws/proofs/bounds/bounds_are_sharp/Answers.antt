use Rattle.def_program_laws.proofs.Sharp.{sharp}
use Rattle.def_program_laws.proofs.bounds.bounds_are_sharp.Goals as goal

pub returns : goal.returns
returns c = sharp
