use Rattle.def_history.proofs.JobRows.{jobs_have_their_leaf_sums}
use Rattle.def_history_laws.proofs.history.rows.jobs_have_their_leaf_sums.Goals as goal

pub returns : goal.returns
returns c = jobs_have_their_leaf_sums
