-- The exit status and the line of a run whose words are taken or name no command.
use Rattle.std.specs.Prelude.{ℕ, List, Option, Some, None}
use Rattle.def_program.specs.TextLines.{usage_line}
use Rattle.xg_load.specs.Endings.{line_at_end, status_of}
use Rattle.xg_load.specs.declared.ending.Ending.{Ending}

abbrev pub status_answered : Option Ending → ℕ
status_answered (Some ending) = status_of ending
status_answered None = 2

abbrev pub line_said : Option Ending → List ℕ
line_said (Some ending) = line_at_end ending
line_said None = usage_line
