-- Which calls of an object in memory fail: those whose numbers are listed. Calls are numbered from 1.
use Rattle.std.specs.Prelude.{ℕ, List, Contains}
use Rattle.xg_memory.specs.declared.schedule.Schedule.{Schedule}
use Rattle.def_outside.specs.Cause.{next_count}

-- the numbers of the calls that fail
abbrev pub failing_calls : Schedule → List ℕ
failing_calls s = s.failing.items

-- how many calls were made
abbrev pub calls_made : Schedule → ℕ
calls_made s = s.calls

-- how many faults there were
abbrev pub faults_so_far : Schedule → ℕ
faults_so_far s = s.faults

-- the next call is listed
abbrev pub FailsNext : Schedule → Type 0
FailsNext s = Contains s.failing.items (next_count s.calls)
