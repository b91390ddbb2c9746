-- What a sink tells that takes everything.
use Rattle.std.specs.Prelude.{ℕ}
use Rattle.xg_memory.specs.declared.sure_sink.SureSink.{SureSink}

-- how many bytes it took, up to the last value of a `u64`
abbrev pub count_of_sink : SureSink → ℕ
count_of_sink s = s.count
