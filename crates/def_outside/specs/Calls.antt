-- What the files and a sink did in a call.
--     past_count               one past the greatest count of taken bytes at which a file is read on
use Rattle.std.specs.Prelude.{◌≡◌, ℕ, ◌+◌, ◌^◌, ◌<◌, ◌≤◌, ◌⊎◌, List, length, Option, IsSome}
use Rattle.std.specs.Io.KnownBytes.{append_known}
use Rattle.def_outside.specs.Cause.{Rose, RoseByOne}
use Rattle.def_outside.specs.Sinks.{AppendsPrefix, IsCutOff}

-- an object's count of faults before the call and after it
pub record Faults : Type 0 where
  pub before : ℕ
  pub now : ℕ

-- the count rose, or it stands at its last value, where no fault can be told
abbrev pub MayHaveFailed : Faults → Type 0
MayHaveFailed faults = Rose faults.before faults.now

-- exactly one call failed; at the last value of the count this can't be told
abbrev pub HasFailedOnce : Faults → Type 0
HasFailedOnce faults = RoseByOne faults.before faults.now

-- the count is as before
abbrev pub HasNoFault : Faults → Type 0
HasNoFault faults = faults.now ≡ faults.before

-- the count is greater than before
abbrev pub HasFailed : Faults → Type 0
HasFailed faults = faults.before < faults.now

-- one past the greatest count of bytes that were taken of a file which is read on
abbrev pub past_count : ℕ
past_count = 2 ^ 62

pub record FilesCall : Type 0 where
  -- the bytes of each name, where they are told
  pub told : List ℕ → Option (List ℕ)
  -- how many bytes were taken of the file that was opened last
  pub taken : ℕ
  -- how many times a file was opened before the call, and after it
  pub opens_before : ℕ
  pub opens_now : ℕ
  pub faults : Faults

pub record SinkCall : Type 0 where
  -- all that was written before the call, and after it, where this is told
  pub before : Option (List ℕ)
  pub now : Option (List ℕ)
  -- how long the piece was of the last write that failed
  pub failed_length : ℕ
  pub faults : Faults

-- files were opened at most so many times in the call
abbrev pub OpensAtMost : FilesCall → ℕ → Type 0
OpensAtMost files count = files.opens_now ≤ files.opens_before + count

-- the call wrote these bytes; a front of them, which isn't all where the sink tells what it has; nothing
abbrev pub Wrote : SinkCall → List ℕ → Type 0
Wrote sink bytes = sink.now ≡ append_known sink.before bytes

abbrev pub WroteFront : SinkCall → List ℕ → Type 0
WroteFront sink bytes = AppendsPrefix sink.before sink.now bytes

abbrev pub WroteNothing : SinkCall → Type 0
WroteNothing sink = sink.now ≡ sink.before

-- the call wrote nothing, and no write failed
abbrev pub IsUntouched : SinkCall → Type 0
IsUntouched sink = WroteNothing sink × HasNoFault sink.faults

-- The call wrote the line, or failed to: then exactly one write failed, the piece of which was the rest of the line.
pub data Says (sink : SinkCall) (line : List ℕ) : Type 0 where
  in_whole : HasNoFault sink.faults → Wrote sink line → Says sink line
  cut_off : HasFailedOnce sink.faults → IsCutOff sink.before sink.now sink.failed_length line → Says sink line

-- A count that grew may tell of a fault, and so does one that grew by one. A front is never the whole where the sink
-- tells what it has, and nothing is a front of some bytes. A line that is said is written whole or as a front, and
-- whole where the sink can't have failed.
pub record CallsAreRead : Type 0 where
  pub failed : (faults : Faults) → HasFailed faults → MayHaveFailed faults
  pub failed_once : (faults : Faults) → HasFailedOnce faults → MayHaveFailed faults
  pub not_whole : (sink : SinkCall) (bytes : List ℕ) → IsSome sink.now → WroteFront sink bytes → Wrote sink bytes → ⊥
  pub nothing : (sink : SinkCall) (bytes : List ℕ) → 0 < length bytes → WroteNothing sink → WroteFront sink bytes
  pub said : (sink : SinkCall) (line : List ℕ) → Says sink line → Wrote sink line ⊎ WroteFront sink line
  pub said_whole : (sink : SinkCall) (line : List ℕ) → Says sink line → (MayHaveFailed sink.faults → ⊥)
      → Wrote sink line
