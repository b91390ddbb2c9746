-- What was read, and the command, as the grammar has them.
use Rattle.std.specs.Prelude.{Option, None, option_map}
use Rattle.def_command.specs.Table as table
use Rattle.def_command.specs.Grammar as grammar
use Rattle.xg_command.specs.declared.command.Command.{Command}
use Rattle.xg_command.specs.declared.command.Command.TheVariants.{Solve, Check, Upgrade, Info, Gen, Drill, Plus, Batch}
use Rattle.xg_command.specs.declared.options.Options.{Options}
use Rattle.xg_command.specs.declared.reading.WordsRead.{WordsRead}
use Rattle.xg_command.specs.Names.{option_value}
use Rattle.xg_command.specs.Plain.{plain_value}

abbrev pub command_value : Command → grammar.Command
command_value (Solve file settings rows) = grammar.Solve file.now settings rows
command_value (Check file certificate) = grammar.Check file.now certificate.now
command_value (Upgrade file certificate) = grammar.Upgrade file.now certificate.now
command_value (Info file) = grammar.Info file.now
command_value (Gen cards) = grammar.Gen cards
command_value (Drill cards settings rows) = grammar.Drill cards settings rows
command_value (Plus file settings rows) = grammar.Plus file.now settings rows
command_value (Batch files settings workers) = grammar.Batch (plain_value files) settings workers

abbrev pub no_numbers : grammar.NumbersSoFar
no_numbers = record { rounds = None; every = None; scale = None; workers = None; atomic = None }

abbrev pub numbers_value : Options → grammar.NumbersSoFar
numbers_value o =
    record { rounds = o.rounds; every = o.every; scale = o.scale; workers = o.workers; atomic = o.atomic }

abbrev pub taken_value : WordsRead → grammar.Taken
taken_value r = record { plain = plain_value r.plain; numbers = numbers_value r.options }

-- with the option whose number comes next
abbrev pub reading_value : WordsRead → grammar.Taken × Option table.OptionName
reading_value r = (taken_value r, option_map option_value r.waiting)
