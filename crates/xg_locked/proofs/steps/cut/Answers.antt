use Rattle.xg_locked.proofs.Moves.{cuts}
use Rattle.xg_locked.proofs.steps.cut.Goals as goal

pub split_seat-requires : goal.split_seat-requires
split_seat-requires g c = (c.requires.table.0, c.requires.table.1, cuts _ _ _ _ _ c.requires.cut)
