use Rattle.def_history.proofs.Ends.{each_row_once}
use Rattle.def_history_laws.proofs.history.each_row_has_one_place.Goals as goal

pub returns : goal.returns
returns c = each_row_once
