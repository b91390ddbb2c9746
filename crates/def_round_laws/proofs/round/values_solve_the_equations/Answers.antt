use Rattle.def_round.proofs.Values.{values_solve}
use Rattle.def_round_laws.proofs.round.values_solve_the_equations.Goals as goal

pub returns : goal.returns
returns c = values_solve
