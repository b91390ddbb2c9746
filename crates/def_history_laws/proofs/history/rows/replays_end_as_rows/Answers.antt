use Rattle.def_history.proofs.JobRows.{replays_end_as_rows}
use Rattle.def_history_laws.proofs.history.rows.replays_end_as_rows.Goals as goal

pub returns : goal.returns
returns c = replays_end_as_rows
