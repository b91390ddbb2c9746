use Rattle.def_program_laws.proofs.ForBoth.{for_both}
use Rattle.def_program_laws.proofs.bounds.bounds_hold_for_both_players.Goals as goal

pub returns : goal.returns
returns c = for_both
