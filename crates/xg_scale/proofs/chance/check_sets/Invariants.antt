use Rattle.std.proofs.Common.{◌≡◌, ◌≤◌, ℕ, None}
use Rattle.def_game_numbers.specs.Numbers.{tables_of}
use Rattle.def_game_scale.specs.Tables.{probabilities}
use Rattle.xg_scale.specs.Chance.{set_fault}
use Rattle.xg_scale.proofs.chance.check_sets.Given as goal

abbrev pub invariant-loop-set : goal.invariant-loop-set
invariant-loop-set l = (s : ℕ) → 1 ≤ s → s ≤ l.set → set_fault l.test 0 (probabilities (tables_of l.game) s) ≡ None
