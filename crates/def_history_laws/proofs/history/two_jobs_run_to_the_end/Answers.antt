use Rattle.def_history.proofs.TwoJobsToTheEnd.{runs_to_the_end}
use Rattle.def_history_laws.proofs.history.two_jobs_run_to_the_end.Goals as goal

pub returns : goal.returns
returns c = runs_to_the_end
