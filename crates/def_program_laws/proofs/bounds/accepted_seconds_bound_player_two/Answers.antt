use Rattle.def_program_laws.proofs.ForBoth.{seconds_bound}
use Rattle.def_program_laws.proofs.bounds.accepted_seconds_bound_player_two.Goals as goal

pub returns : goal.returns
returns c = seconds_bound
