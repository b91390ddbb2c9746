-- What holds of the files of a batch. Each law is the contract of a function of this crate.
use Rattle.std.specs.Prelude.{◌≡◌, ◌↔◌, ℕ, ◌+◌, ◌<◌, ◌≤◌, List, [], ◌∷◌, ◌++◌, length, map, take, drop, slice_get, Some}
use Rattle.std.specs.Prelude.{Ok, Err}
use Rattle.def_file.specs.declared.FileFault.{FileFault}
use Rattle.def_file.specs.declared.FileFault.TheVariants.{TooLong}
use Rattle.def_file.specs.Content.{GameFile}
use Rattle.def_check.specs.Accepted.{IsAccepted}
use Rattle.def_check.specs.FirstFault.{IsFirstFault}
use Rattle.def_batch.specs.Batch.{BatchEntry, Kept, Long, batch_entries, batch_room, item_of, kept_bytes}

-- the file has this entry: it is kept as it stands exactly where it has no more bytes than the room less those that are
-- kept of the earlier files
pub record HasEntry (room : ℕ) (earlier : List BatchEntry) (file : List ℕ) (entry : BatchEntry) : Type 0 where
  pub fits : kept_bytes earlier + length file ≤ room → entry ≡ Kept file
  pub too_long : room < kept_bytes earlier + length file → entry ≡ Long

-- one entry for each file, in order
pub record HaveEntries (room : ℕ) (files : List (List ℕ)) (entries : List BatchEntry) : Type 0 where
  pub count : length entries ≡ length files
  pub each : (i : ℕ) (file : List ℕ) (entry : BatchEntry) → slice_get files i ≡ Some file
      → slice_get entries i ≡ Some entry → HasEntry room (take i entries) file entry

abbrev pub EntriesAreComputed : Type 0
EntriesAreComputed = (room : ℕ) (files : List (List ℕ)) (entries : List BatchEntry)
    → HaveEntries room files entries ↔ (batch_entries room files ≡ entries)

-- no more is kept than there is room for
abbrev pub KeptBytesAreWithin : Type 0
KeptBytesAreWithin = (room : ℕ) (files : List (List ℕ)) → kept_bytes (batch_entries room files) ≤ room

-- the files behind one that is too long have the entries that they have where it is left out
abbrev pub LongFilesTakeNothing : Type 0
LongFilesTakeNothing = (room : ℕ) (before : List (List ℕ)) (file : List ℕ) (behind : List (List ℕ))
    → slice_get (batch_entries room (before ++ file ∷ behind)) (length before) ≡ Some Long
    → batch_entries room (before ++ file ∷ behind)
    ≡ batch_entries room before ++ Long ∷ drop (length before) (batch_entries room (before ++ behind))

abbrev pub EmptyFilesFit : Type 0
EmptyFilesFit = (room : ℕ) (files : List (List ℕ)) (i : ℕ) → slice_get files i ≡ Some []
    → slice_get (batch_entries room files) i ≡ Some (Kept [])

-- the bytes of all files together
abbrev pub all_bytes : List (List ℕ) → ℕ
all_bytes [] = 0
all_bytes (file ∷ files) = length file + all_bytes files

abbrev pub ShortFilesAreKept : Type 0
ShortFilesAreKept = (room : ℕ) (files : List (List ℕ)) → all_bytes files ≤ room → batch_entries room files
    ≡ map Kept files

-- a file that is kept is accepted, or refused, as it is alone
pub record IsJudgedAlone (bytes : List ℕ) : Type 0 where
  pub accepted : (game : GameFile) → (item_of (Kept bytes) ≡ Ok game) ↔ IsAccepted bytes game
  pub refused : (fault : FileFault) → (item_of (Kept bytes) ≡ Err fault) ↔ IsFirstFault bytes fault

abbrev pub KeptFilesAreJudgedAlone : Type 0
KeptFilesAreJudgedAlone = (bytes : List ℕ) → IsJudgedAlone bytes

-- of the files of a batch those are refused as too long that aren't kept
abbrev pub RefusedAsTooLong : Type 0
RefusedAsTooLong = (files : List (List ℕ)) (i : ℕ) (entry : BatchEntry)
    → slice_get (batch_entries batch_room files) i ≡ Some entry → (item_of entry ≡ Err TooLong) ↔ (entry ≡ Long)
