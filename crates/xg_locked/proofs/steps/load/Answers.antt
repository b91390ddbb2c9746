use Rattle.xg_locked.proofs.Moves.{looks}
use Rattle.xg_locked.proofs.steps.load.Goals as goal

pub load-requires : goal.load-requires
load-requires c = (c.requires.table.0, c.requires.table.1, looks _ _ _ _ c.requires.live)
