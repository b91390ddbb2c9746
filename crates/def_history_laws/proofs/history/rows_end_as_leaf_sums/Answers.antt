use Rattle.def_history.proofs.Leaves.{ends_with_leaf_sums}
use Rattle.def_history_laws.proofs.history.rows_end_as_leaf_sums.Goals as goal

pub returns : goal.returns
returns c = ends_with_leaf_sums
