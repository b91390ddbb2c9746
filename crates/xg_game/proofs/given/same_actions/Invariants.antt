use Rattle.std.proofs.Common.{◌≡◌, drop, length}
use Rattle.std.specs.Cmp.Lexicographic.{pointwise}
use Rattle.def_file.specs.Faults.{same_action}
use Rattle.xg_record.specs.Entry.{actions_seen}
use Rattle.xg_game.proofs.given.same_actions.Given as goal

abbrev pub invariant-loop-i : goal.invariant-loop-i
invariant-loop-i l =
    (length l.kept ≡ length (actions_seen l.given)) × (pointwise (same_action l.kind) (drop l.i l.kept) (drop l.i (actions_seen l.given))
    ≡ pointwise (same_action l.kind) l.kept (actions_seen l.given))
