use Rattle.def_program_drill.proofs.Drills.{drills_have_bounds}
use Rattle.def_program_drill.proofs.drills_have_their_bounds.Goals as goal

pub returns : goal.returns
returns c = drills_have_bounds
