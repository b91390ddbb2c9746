-- The commands and the options, as the grammar has them.
use Rattle.def_command.specs.Table as table
use Rattle.xg_command.specs.declared.names.CommandName.{CommandName}
use Rattle.xg_command.specs.declared.names.CommandName.TheVariants.{Solve, Check, Upgrade, Info, Gen, Drill, Plus}
use Rattle.xg_command.specs.declared.names.CommandName.TheVariants.{Batch}
use Rattle.xg_command.specs.declared.names.OptionName.{OptionName}
use Rattle.xg_command.specs.declared.names.OptionName.TheVariants.{Rounds, Every, Scale, Workers, Atomic}

abbrev pub name_value : CommandName → table.CommandName
name_value Solve = table.Solve
name_value Check = table.Check
name_value Upgrade = table.Upgrade
name_value Info = table.Info
name_value Gen = table.Gen
name_value Drill = table.Drill
name_value Plus = table.Plus
name_value Batch = table.Batch

abbrev pub option_value : OptionName → table.OptionName
option_value Rounds = table.Rounds
option_value Every = table.Every
option_value Scale = table.Scale
option_value Workers = table.Workers
option_value Atomic = table.Atomic
