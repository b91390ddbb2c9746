use Rattle.def_history.proofs.Cuts.{length-jobs_of}
use Rattle.def_history_laws.proofs.history.jobs.jobs_are_few.Goals as goal

pub returns : goal.returns
returns c = length-jobs_of
