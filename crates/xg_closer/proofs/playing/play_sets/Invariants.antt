use Rattle.std.proofs.Common.{◌≡◌, ℕ, ◌<◌, length, slice_index, map}
use Rattle.def_plan.specs.Form.{player_sets}
use Rattle.def_round.specs.Play.{play_of}
use Rattle.xg_closer.proofs.Sets.{start_of}
use Rattle.xg_closer.proofs.playing.play_sets.Given as goal

abbrev pub invariant-loop-set : goal.invariant-loop-set
invariant-loop-set g l = (length l.play ≡ length l.initial.play)
    × ((s : ℕ) → s < start_of (player_sets l.form l.fn.player) l.set → slice_index l.play s
    ≡ slice_index (play_of (player_sets l.form l.fn.player) (map g.R.Worth.amount l.regrets)) s)
