-- A line that is written is said.
use Rattle.std.proofs.Common.{◌≡◌, ℕ, List, Result, Ok, Err, OnOk, OnErr}
use Rattle.std.specs.Io.KnownBytes.{append_known}
use Rattle.def_outside.specs.Cause.{HasCause}
use Rattle.def_outside.specs.Sinks.{IsCutOff}
use Rattle.def_outside.specs.Calls.{SinkCall, Says, in_whole, cut_off}

-- a call says a line by writing it, or fails to where it is cut off
pub says_of : {T E : Type 0} (written : Result T E) (sink : SinkCall) (line : List ℕ)
    → OnOk written (sink.now ≡ append_known sink.before line)
    → OnErr written (IsCutOff sink.before sink.now sink.failed_length line)
    → HasCause sink.faults.before sink.faults.now written → Says sink line
says_of (Ok _) sink line whole cut cause = in_whole cause whole
says_of (Err _) sink line whole cut cause = cut_off cause cut
