-- Worked rows: files of a few bytes, with little room.
use Rattle.std.specs.Prelude.{◌≡◌, ℕ, List, [], ◌∷◌, Err, codes}
use Rattle.def_file.specs.declared.FileFault.TheVariants.{TooLong}
use Rattle.def_batch.specs.Batch.{Kept, Long, batch_entries, batch_room, item_of, kept_bytes}

abbrev pub files : List (List ℕ)
files = codes "ab" ∷ codes "cd" ∷ [] ∷ codes "e" ∷ codes "f" ∷ [] ∷ []

pub record RoomRows : Type 0 where
  pub room : batch_room ≡ 4194304
  pub none : batch_entries 3 [] ≡ []
  pub no_room : batch_entries 0 files ≡ Long ∷ Long ∷ Kept [] ∷ Long ∷ Long ∷ Kept [] ∷ []
  pub three : batch_entries 3 files ≡ Kept (codes "ab") ∷ Long ∷ Kept [] ∷ Kept (codes "e") ∷ Long ∷ Kept [] ∷ []
  pub kept : kept_bytes (batch_entries 3 files) ≡ 3
  pub four : batch_entries 4 files ≡ Kept (codes "ab") ∷ Kept (codes "cd") ∷ Kept [] ∷ Long ∷ Long ∷ Kept [] ∷ []
  pub all : batch_entries 6 files ≡ Kept (codes "ab") ∷ Kept (codes "cd") ∷ Kept [] ∷ Kept (codes "e")
      ∷ Kept (codes "f")
      ∷ Kept [] ∷ []
  pub long : item_of Long ≡ Err TooLong
