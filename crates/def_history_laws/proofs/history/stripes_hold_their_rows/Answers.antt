use Rattle.def_history.proofs.Packets.{stripes_hold_their_rows}
use Rattle.def_history_laws.proofs.history.stripes_hold_their_rows.Goals as goal

pub returns : goal.returns
returns c = stripes_hold_their_rows
