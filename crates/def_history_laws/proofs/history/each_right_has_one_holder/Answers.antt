use Rattle.def_history.proofs.Holders.{holds_or_gives_up}
use Rattle.def_history_laws.proofs.history.each_right_has_one_holder.Goals as goal

pub returns : goal.returns
returns c = holds_or_gives_up
