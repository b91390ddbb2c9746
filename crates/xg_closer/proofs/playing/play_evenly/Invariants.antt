use Rattle.std.proofs.Common.{◌≡◌, ◌*◌, ◌/◌, map}
use Rattle.def_round.specs.Play.{set_play, units}
use Rattle.xg_seq.specs.Table.{placed_of_row}
use Rattle.xg_closer.specs.Playing.{PlaysFirst}
use Rattle.xg_closer.proofs.playing.play_evenly.Given as goal

abbrev pub invariant-loop-i : goal.invariant-loop-i
invariant-loop-i g l = (l.given ≡ units * l.i / l.fn.place.actions) × PlaysFirst l.fn.place.first l.i
    (set_play (map g.R.Worth.amount l.regrets) (placed_of_row l.fn.place)) l.initial.play l.play
