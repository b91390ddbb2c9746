use Rattle.def_program_drill.proofs.Drills.{poker_is_accepted}
use Rattle.def_program_drill.proofs.poker_is_accepted.Goals as goal

pub returns : goal.returns
returns c = poker_is_accepted
