-- Marks of numbers: 0, or one more than the place where the number stands.
use Rattle.std.specs.Prelude.{◌≡◌, ◌≢◌, ℕ, ◌+◌, ◌<◌, nat_eq, if◌then◌else◌, List, position, slice_index, unwrap_or}
use Rattle.std.specs.Prelude.{Option, Some, None}
use Rattle.indexmap.specs.IndexMap.{IndexMap, get}

abbrev pub marked : Option ℕ → ℕ
marked None = 0
marked (Some i) = i + 1

-- the mark in the array, or else the one in the table
abbrev pub mark_of : {S : Type 0} → List ℕ → IndexMap ℕ ℕ S → ℕ → ℕ
mark_of near far n = if nat_eq (slice_index near n) 0 then unwrap_or (get nat_eq far n) 0 else slice_index near n

-- each number has the mark of the place where it stands
pub record MarksEach {S : Type 0} (numbers near : List ℕ) (far : IndexMap ℕ ℕ S) : Type 0 where
  pub each : (n : ℕ) → mark_of near far n ≡ marked (position (nat_eq n) numbers)

-- and no number is greater than this one
pub record MarksUpTo {S : Type 0} (numbers near : List ℕ) (far : IndexMap ℕ ℕ S) (greatest : ℕ) : Type 0 where
  pub marks : MarksEach numbers near far
  pub above : (n : ℕ) → greatest < n → marked (position (nat_eq n) numbers) ≡ 0

-- one mark more
pub record SetsMark (old new : List ℕ) (at mark : ℕ) : Type 0 where
  pub here : slice_index new at ≡ mark
  pub others : (n : ℕ) → n ≢ at → slice_index new n ≡ slice_index old n
