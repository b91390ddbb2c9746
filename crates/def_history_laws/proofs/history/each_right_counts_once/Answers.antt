use Rattle.def_history.proofs.Holders.{counts_once}
use Rattle.def_history_laws.proofs.history.each_right_counts_once.Goals as goal

pub returns : goal.returns
returns c = counts_once
