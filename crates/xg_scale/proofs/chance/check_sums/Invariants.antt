use Rattle.std.proofs.Common.{◌≡◌, drop}
use Rattle.def_game_scale.specs.Faults.{adding_fault}
use Rattle.def_game_numbers.specs.Numbers.{tables_of}
use Rattle.def_fraction.specs.Fraction.{zero_fraction}
use Rattle.def_game_scale.specs.Tables.{probabilities}
use Rattle.xg_scale.proofs.chance.check_sums.Given as goal

abbrev pub invariant-loop-action : goal.invariant-loop-action
invariant-loop-action l = adding_fault l.node zero_fraction (probabilities (tables_of l.game) l.set)
    ≡ adding_fault l.node l.sum (drop l.action (probabilities (tables_of l.game) l.set))
