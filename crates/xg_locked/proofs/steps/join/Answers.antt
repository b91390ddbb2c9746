use Rattle.xg_locked.proofs.Moves.{pours}
use Rattle.xg_locked.proofs.steps.join.Goals as goal

pub join_seat-requires : goal.join_seat-requires
join_seat-requires c = (c.requires.table.0, c.requires.table.1, c.requires.table.3, c.requires.table.2, pours _ _ _ _ _ c.requires.live.0 c.requires.live.1)
