-- What files in memory tell that never fail: a name that they don't hold is an empty file.
use Rattle.std.specs.Prelude.{ℕ, List, drop, Option, Some}
use Rattle.std.specs.Option.{option_and_then}
use Rattle.xg_memory.specs.declared.sure_files.SureFiles.{SureFiles}
use Rattle.xg_memory.specs.Stored.{sure_bytes_of, sure_bytes_at}

-- the bytes of a name
abbrev pub sure_told_of : SureFiles → List ℕ → Option (List ℕ)
sure_told_of s name = Some (sure_bytes_of s.files.items name)

-- the place of the open file
abbrev pub sure_current_of : SureFiles → Option ℕ
sure_current_of s = s.current

-- how many of its bytes were read
abbrev pub sure_taken_of : SureFiles → ℕ
sure_taken_of s = s.taken

-- how many times one was opened
abbrev pub sure_opens_of : SureFiles → ℕ
sure_opens_of s = s.opens

-- what is left of it
abbrev pub sure_left_of : SureFiles → Option (List ℕ)
sure_left_of s = option_and_then (λ place. Some (drop s.taken (sure_bytes_at s.files.items place))) s.current
