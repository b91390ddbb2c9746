-- Why a call to the outside failed. An outside object keeps a count of its faults, which never falls and
-- stands still at its last value, that of a `u64`.
--     next_count n             the count after one more
--     Rose, RoseByOne          the count rose, once or more often or exactly once
--     HasCause                 a call counts exactly one fault where it fails, and else none
use Rattle.std.specs.Prelude.{◌≡◌, ℕ, ◌+◌, ◌-◌, ◌^◌, ◌≤◌, min, Result, Ok, Err}

-- the count after one more, which stops at the last value of a `u64`
abbrev pub next_count : ℕ → ℕ
next_count n = min (n + 1) (2 ^ 64 - 1)

-- The count rose from `before` to `now`, or stands at its last value.
abbrev pub Rose : ℕ → ℕ → Type 0
Rose before now = (before ≤ now) × (next_count before ≤ now)

-- The count rose by one, or stands at its last value.
abbrev pub RoseByOne : ℕ → ℕ → Type 0
RoseByOne before now = (before ≤ now) × (now ≡ next_count before)

-- A call that fails counts exactly one fault, and any other none.
abbrev pub HasCause : {T E : Type 0} → ℕ → ℕ → Result T E → Type 0
HasCause before now (Ok _) = now ≡ before
HasCause before now (Err _) = RoseByOne before now

-- what rose in a part of a call rose in the whole of it
pub record CountsOnlyRise : Type 0 where
  pub then_kept : (first middle last : ℕ) → Rose first middle → middle ≤ last → Rose first last
  pub kept_then : (first middle last : ℕ) → first ≤ middle → Rose middle last → Rose first last
