use Rattle.std.proofs.Common.{◌≡◌, drop}
use Rattle.std.specs.List.{list_any}
use Rattle.def_game_scale.specs.Faults.{is_negative}
use Rattle.def_game_numbers.specs.Numbers.{tables_of}
use Rattle.def_game_scale.specs.Tables.{probabilities}
use Rattle.xg_scale.proofs.chance.check_signs.Given as goal

abbrev pub invariant-loop-action : goal.invariant-loop-action
invariant-loop-action l = list_any is_negative (probabilities (tables_of l.game) l.set)
    ≡ list_any is_negative (drop l.action (probabilities (tables_of l.game) l.set))
