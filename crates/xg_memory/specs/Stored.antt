-- Files in memory. Of two with one name the first in the list is found.
use Rattle.std.specs.Prelude.{ℕ, List, [], Option, unwrap_or, nat_eq, find, slice_get}
use Rattle.std.specs.Option.{option_map}
use Rattle.std.specs.Cmp.Lexicographic.{pointwise}
use Rattle.xg_memory.specs.declared.stored.Stored.{Stored}

-- the bytes of a name
abbrev pub stored_bytes_of : List Stored → List ℕ → Option (List ℕ)
stored_bytes_of files name = option_map (λ file. file.bytes.items)
    (find (λ file. pointwise nat_eq file.name.items name) files)

-- the bytes at a place in the list
abbrev pub stored_bytes_at : List Stored → ℕ → Option (List ℕ)
stored_bytes_at files place = option_map (λ file. file.bytes.items) (slice_get files place)

-- the bytes of a name, and none where there is no file of that name
abbrev pub sure_bytes_of : List Stored → List ℕ → List ℕ
sure_bytes_of files name = unwrap_or (stored_bytes_of files name) []

-- the bytes at a place, and none past the last one
abbrev pub sure_bytes_at : List Stored → ℕ → List ℕ
sure_bytes_at files place = unwrap_or (stored_bytes_at files place) []
