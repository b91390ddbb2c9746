-- Counts of faults and of opened files, and lines that were said, in plain numbers.
--     IsSaid sink line before    the line was said behind these bytes: all of it, or a front of it before one fault
use Rattle.std.specs.Prelude.{◌≡◌, ◌↔◌, ◌⊎◌, ℕ, ◌+◌, ◌<◌, ◌≤◌, List, ◌++◌, length, take, Some}
use Rattle.def_outside.specs.Cause.{Rose, RoseByOne}
use Rattle.def_outside.specs.Calls.{FilesCall, HasFailed, HasFailedOnce, HasNoFault, MayHaveFailed, OpensAtMost}
use Rattle.def_outside.specs.Calls.{Says, SinkCall}

-- below its last value a count rose where it is greater, and once where it is greater by one; at its last value it
-- can't be told to have stood, so each call may have failed there
pub record CountsAreRead : Type 0 where
  pub rose : (before now : ℕ) → before < 18446744073709551615 → Rose before now ↔ (before < now)
  pub once : (before now : ℕ) → before < 18446744073709551615 → RoseByOne before now ↔ (now ≡ before + 1)
  pub last : (now : ℕ) → Rose 18446744073709551615 now ↔ (18446744073709551615 ≤ now)
  pub once_at_last : (now : ℕ) → RoseByOne 18446744073709551615 now ↔ (now ≡ 18446744073709551615)
  pub may : (before now : ℕ) → MayHaveFailed (record { before = before; now = now }) ↔ Rose before now
  pub failed_once : (before now : ℕ) → HasFailedOnce (record { before = before; now = now }) ↔ RoseByOne before now
  pub failed : (before now : ℕ) → HasFailed (record { before = before; now = now }) ↔ (before < now)
  pub none : (before now : ℕ) → HasNoFault (record { before = before; now = now }) ↔ (now ≡ before)

-- no more files were opened than so many beside the earlier ones
abbrev pub OpensAreRead : Type 0
OpensAreRead = (files : FilesCall) (count : ℕ)
    → OpensAtMost files count ↔ (files.opens_now ≤ files.opens_before + count)

pub record IsFrontOf (sink : SinkCall) (line before : List ℕ) : Type 0 where
  pub count : ℕ
  pub wrote : sink.now ≡ Some (before ++ take count line)
  pub rest : count + sink.failed_length ≡ length line
  pub some_left : 0 < sink.failed_length
  pub failed : HasFailedOnce sink.faults

abbrev pub IsSaid : SinkCall → List ℕ → List ℕ → Type 0
IsSaid sink line before =
    ((sink.now ≡ Some (before ++ line)) × HasNoFault sink.faults) ⊎ IsFrontOf sink line before

-- a line is said behind bytes that are told where it stands there and nothing failed, or where a front of it does and
-- the one write that failed had the rest, at least a byte
abbrev pub SaidLinesAreRead : Type 0
SaidLinesAreRead = (sink : SinkCall) (line before : List ℕ) → sink.before ≡ Some before
    → Says sink line ↔ IsSaid sink line before
