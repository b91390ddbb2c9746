-- Where a reader of tokens stands.
use Rattle.std.specs.Prelude.{◌≡◌, ℕ, ◌≤◌, List, length}
use Rattle.def_file_tokens.specs.Tokens.{after_space}

-- the offset `at` is within the bytes, and the white space from it on ends at `start`
pub record IsStanding (bytes : List ℕ) (at start : ℕ) : Type 0 where
  pub within : at ≤ length bytes
  pub space : start ≡ after_space bytes at
  pub start_within : start ≤ length bytes
