use Rattle.def_history.proofs.Ends.{ends_with_plain_sums}
use Rattle.def_history_laws.proofs.history.rows_end_as_plain_sums.Goals as goal

pub returns : goal.returns
returns c = ends_with_plain_sums
