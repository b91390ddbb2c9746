use Rattle.std.proofs.Common.{◌≡◌, ◌++◌, take}
use Rattle.xg_record.specs.Entry.{actions_seen}
use Rattle.xg_game.proofs.actions.KeptActions.add.Given as goal

abbrev pub invariant-loop-i : goal.invariant-loop-i
invariant-loop-i l = l.self ≡ l.fn.self ++ take l.i (actions_seen l.actions)
