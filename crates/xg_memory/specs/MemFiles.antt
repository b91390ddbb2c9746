-- What files in memory tell.
use Rattle.std.specs.Prelude.{ℕ, List, drop, Option}
use Rattle.std.specs.Option.{option_map, option_and_then}
use Rattle.xg_memory.specs.declared.memory_files.MemFiles.{MemFiles}
use Rattle.xg_memory.specs.declared.schedule.Schedule.{Schedule}
use Rattle.xg_memory.specs.Schedule.{faults_so_far}
use Rattle.xg_memory.specs.Stored.{stored_bytes_of, stored_bytes_at}

-- the bytes of a name, where there is a file of that name
abbrev pub told_of : MemFiles → List ℕ → Option (List ℕ)
told_of m = stored_bytes_of m.files.items

-- the place of the open file
abbrev pub current_of : MemFiles → Option ℕ
current_of m = m.current

-- how many of its bytes were read
abbrev pub taken_of : MemFiles → ℕ
taken_of m = m.taken

-- how many times one was opened
abbrev pub opens_of : MemFiles → ℕ
opens_of m = m.opens

-- what is left of it
abbrev pub left_of : MemFiles → Option (List ℕ)
left_of m = option_and_then (λ place. option_map (drop m.taken) (stored_bytes_at m.files.items place)) m.current

-- which calls fail
abbrev pub schedule_of : MemFiles → Schedule
schedule_of m = m.schedule

-- how many of its calls failed
abbrev pub faults_of : MemFiles → ℕ
faults_of m = faults_so_far (schedule_of m)
