-- What waits in a page, and what its sink took since the page was made.
use Rattle.std.specs.Prelude.{◌≡◌, ℕ, ◌-◌, List, [], length, take, drop, Option, None, Some}
use Rattle.std.specs.Io.KnownBytes.{append_known}

-- how many bytes a page holds
abbrev pub page_size : ℕ
page_size = 16384

-- the bytes from one place to another
abbrev pub waiting_in : List ℕ → ℕ → ℕ → List ℕ
waiting_in bytes start end = take (end - start) (drop start bytes)

-- what the sink has, and then what waits for it
abbrev pub with_waiting : Option (List ℕ) → List ℕ → ℕ → ℕ → Option (List ℕ)
with_waiting written bytes start end = append_known written (waiting_in bytes start end)

-- what was appended, where both are known and one begins with the other
abbrev pub grown_by : Option (List ℕ) → Option (List ℕ) → List ℕ
grown_by None now = []
grown_by (Some bytes) None = []
grown_by (Some bytes) (Some more) = drop (length bytes) more

-- bytes were appended, or none
abbrev pub IsGrown : Option (List ℕ) → Option (List ℕ) → Type 0
IsGrown before now = now ≡ append_known before (grown_by before now)
