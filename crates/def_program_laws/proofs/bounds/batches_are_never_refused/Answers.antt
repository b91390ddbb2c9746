use Rattle.def_program_laws.proofs.Successes.{never_refused}
use Rattle.def_program_laws.proofs.bounds.batches_are_never_refused.Goals as goal

pub returns : goal.returns
returns c = never_refused
