use Rattle.def_history.proofs.Ranges.{partition}
use Rattle.def_history_laws.proofs.history.jobs.jobs_partition.Goals as goal

pub returns : goal.returns
returns c = partition
