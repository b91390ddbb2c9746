use Rattle.std.proofs.Common.{◌≡◌, ℕ, ◌<◌, ◌≤◌, length, map}
use Rattle.def_plan.specs.Form.{player_sets}
use Rattle.def_round.specs.Play.{regret_of}
use Rattle.def_round.specs.Round.{regrets_after}
use Rattle.xg_closer.proofs.WorthsSetBySet.{KeepsWorths}
use Rattle.xg_closer.proofs.Sets.{start_of}
use Rattle.xg_closer.proofs.closing.close_sets.Given as goal
use Rattle.def_plan.specs.FormRows.{amount_of}

abbrev pub invariant-loop-set : goal.invariant-loop-set
invariant-loop-set g l =
    KeepsWorths g.W.Worth.width (amount_of (map g.W.Worth.amount l.initial.worths)) l.play (player_sets l.form l.fn.player) l.set
    (map g.W.Worth.amount l.worths)
    × (length l.regrets ≡ length l.initial.regrets)
    × ((s : ℕ) → s < start_of (player_sets l.form l.fn.player) l.set → regret_of (map g.R.Worth.amount l.regrets) s
    ≡ regret_of (map g.R.Worth.amount l.initial.regrets) s)
    × ((s : ℕ) → start_of (player_sets l.form l.fn.player) l.set ≤ s
    → regret_of (map g.R.Worth.amount l.regrets) s ≡ regret_of (regrets_after (amount_of (map g.W.Worth.amount l.initial.worths)) l.play
    (player_sets l.form l.fn.player) (map g.R.Worth.amount l.initial.regrets)) s)
