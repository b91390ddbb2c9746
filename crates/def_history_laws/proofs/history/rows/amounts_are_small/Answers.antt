use Rattle.def_history.proofs.Amounts.{amounts_small}
use Rattle.def_history_laws.proofs.history.rows.amounts_are_small.Goals as goal

pub returns : goal.returns
returns c = amounts_small
