use Rattle.def_history.proofs.JobPackets.{touched_rows_are_exact}
use Rattle.def_history_laws.proofs.history.rows.touched_rows_are_exact.Goals as goal

pub returns : goal.returns
returns c = touched_rows_are_exact
