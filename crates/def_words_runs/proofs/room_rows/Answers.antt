use Rattle.def_words_runs.proofs.Runs.{room_rows}
use Rattle.def_words_runs.proofs.room_rows.Goals as goal

pub returns : goal.returns
returns c = room_rows
