use Rattle.def_history.proofs.JobRows.{rows_sum_over_leaves}
use Rattle.def_history_laws.proofs.history.rows.rows_sum_over_leaves.Goals as goal

pub returns : goal.returns
returns c = rows_sum_over_leaves
