use Rattle.def_program_laws.proofs.Upgraded.{accepted_again}
use Rattle.def_program_laws.proofs.solve_check.upgraded_texts_are_accepted_again.Goals as goal

pub returns : goal.returns
returns c = accepted_again
