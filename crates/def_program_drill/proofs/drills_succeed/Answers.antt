use Rattle.def_program_drill.proofs.Drills.{drills_succeed}
use Rattle.def_program_drill.proofs.drills_succeed.Goals as goal

pub returns : goal.returns
returns c = drills_succeed
