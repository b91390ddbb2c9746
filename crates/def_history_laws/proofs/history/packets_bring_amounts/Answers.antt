use Rattle.def_history.proofs.Packets.{packets_bring_amounts}
use Rattle.def_history_laws.proofs.history.packets_bring_amounts.Goals as goal

pub returns : goal.returns
returns c = packets_bring_amounts
