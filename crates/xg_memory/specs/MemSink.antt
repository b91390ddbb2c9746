-- What a sink in memory tells.
use Rattle.std.specs.Prelude.{ℕ, ◌-◌, List, vec_len}
use Rattle.xg_memory.specs.declared.memory_sink.MemSink.{MemSink}
use Rattle.xg_memory.specs.declared.schedule.Schedule.{Schedule}
use Rattle.xg_memory.specs.Schedule.{faults_so_far}

-- the bytes that it took
abbrev pub bytes_of_sink : MemSink → List ℕ
bytes_of_sink m = m.bytes.items

-- how many more bytes it takes
abbrev pub room_of : MemSink → ℕ
room_of m = m.capacity - vec_len m.bytes

-- which calls fail
abbrev pub schedule_of_sink : MemSink → Schedule
schedule_of_sink m = m.schedule

-- how many of its writes failed
abbrev pub faults_of_sink : MemSink → ℕ
faults_of_sink m = faults_so_far (schedule_of_sink m)

-- how long the piece was of the last write that failed
abbrev pub failed_length_of : MemSink → ℕ
failed_length_of m = m.failed_length
