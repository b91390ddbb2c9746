use Rattle.def_history.proofs.Cuts.{leaves-jobs_of}
use Rattle.def_history_laws.proofs.history.jobs.each_leaf_in_one_job.Goals as goal

pub returns : goal.returns
returns c = leaves-jobs_of
