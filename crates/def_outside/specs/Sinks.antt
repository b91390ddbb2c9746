-- What was written, where a sink tells it.
use Rattle.std.specs.Prelude.{◌≡◌, ℕ, ◌+◌, ◌<◌, List, length, take, Option, IsSome, Result, Ok, Err}
use Rattle.std.specs.Io.KnownBytes.{append_known}

-- A front of the bytes was appended, and nothing else. Where the sink tells what it has, some of the bytes are left.
pub record AppendsPrefix (before now : Option (List ℕ)) (bytes : List ℕ) : Type 0 where
  pub count : ℕ
  pub appended : now ≡ append_known before (take count bytes)
  pub some_left : IsSome now → count < length bytes

-- The whole text was appended, or a front of it where the sink failed.
abbrev pub Writes : {T E : Type 0} → Option (List ℕ) → Option (List ℕ) → List ℕ → Result T E → Type 0
Writes before now text (Ok _) = now ≡ append_known before text
Writes before now text (Err _) = AppendsPrefix before now text

-- The bytes were cut off by a write that failed, and nothing was written after it: a front of them was appended, and
-- the piece of the write that failed, of this length, was the rest of them, at least one byte.
pub record IsCutOff (before now : Option (List ℕ)) (failed_length : ℕ) (bytes : List ℕ) : Type 0 where
  pub count : ℕ
  pub appended : now ≡ append_known before (take count bytes)
  pub rest : count + failed_length ≡ length bytes
  pub some_left : 0 < failed_length
