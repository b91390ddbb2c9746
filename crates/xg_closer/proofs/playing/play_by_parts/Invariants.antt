use Rattle.std.proofs.Common.{◌≡◌, map}
use Rattle.def_round.specs.Shares.{prefix_share, prefix_sum}
use Rattle.def_round.specs.Play.{set_play, units}
use Rattle.xg_seq.specs.Table.{placed_of_row}
use Rattle.xg_closer.specs.Playing.{PlaysFirst, positive_parts}
use Rattle.xg_closer.proofs.playing.play_by_parts.Given as goal

abbrev pub invariant-loop-i : goal.invariant-loop-i
invariant-loop-i g l = (l.sum_so_far ≡ prefix_sum (positive_parts (map g.R.Worth.amount l.regrets) (placed_of_row l.fn.place)) l.i)
    × (l.given ≡ prefix_share units (positive_parts (map g.R.Worth.amount l.regrets) (placed_of_row l.fn.place)) l.i)
    × PlaysFirst l.fn.place.first l.i (set_play (map g.R.Worth.amount l.regrets) (placed_of_row l.fn.place)) l.initial.play l.play
