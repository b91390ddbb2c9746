-- What may be asked of a run of CFR+.
use Rattle.std.specs.Prelude.{◌≤◌}
use Rattle.def_sums.specs.Limits.{most_rounds}
use Rattle.def_plus.specs.Limits.{most_plus_rounds, most_plus_scale}
use Rattle.def_command.specs.declared.Settings.{Settings}

pub record ArePlusSettings (settings : Settings) : Type 0 where
  pub few_rounds : settings.rounds ≤ most_plus_rounds
  pub some_every : 1 ≤ settings.every
  pub small_every : settings.every ≤ most_rounds
  pub some_scale : 1 ≤ settings.scale
  pub small_scale : settings.scale ≤ most_plus_scale
