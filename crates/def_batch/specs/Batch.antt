-- A batch: files that are solved side by side, of which so many bytes are kept.
--     batch_room                 the most bytes that a batch keeps
--     BatchEntry                 a file of a batch: its bytes, or that it is too long
--     kept_bytes entries         the bytes that are kept of all files together
--     batch_entries room files   the entries of files, with so much room
--     item_of entry              the game of an accepted file, or the file's first fault
use Rattle.std.specs.Prelude.{ℕ, ◌+◌, ◌-◌, nat_lt, if◌then◌else◌, List, [], ◌∷◌, length, Result, Err}
use Rattle.def_file.specs.declared.FileFault.{FileFault}
use Rattle.def_file.specs.declared.FileFault.TheVariants.{TooLong}
use Rattle.def_file.specs.Content.{GameFile}
use Rattle.def_check.specs.Accepting.{read_as_accepted}
use Rattle.def_batch.specs.declared.TheConstants.{BATCH_ROOM}

-- the most bytes that a batch keeps
abbrev pub batch_room : ℕ
batch_room = BATCH_ROOM

-- a file of a batch
pub data BatchEntry : Type 0 where
  Kept : List ℕ → BatchEntry
  Long : BatchEntry

-- the bytes that are kept of a file, and of all files together
abbrev pub entry_bytes : BatchEntry → ℕ
entry_bytes (Kept bytes) = length bytes
entry_bytes Long = 0

abbrev pub kept_bytes : List BatchEntry → ℕ
kept_bytes [] = 0
kept_bytes (entry ∷ entries) = entry_bytes entry + kept_bytes entries

-- a file is too long exactly where it has more bytes than there is room for
abbrev pub batch_entry : ℕ → List ℕ → BatchEntry
batch_entry room file = if nat_lt room (length file) then Long else Kept file

-- the first file has all the room, and those behind it have what it leaves
abbrev pub batch_entries : ℕ → List (List ℕ) → List BatchEntry
batch_entries room [] = []
batch_entries room (file ∷ files) =
    batch_entry room file ∷ batch_entries (room - entry_bytes (batch_entry room file)) files

-- what a file of a batch stands for
abbrev pub item_of : BatchEntry → Result GameFile FileFault
item_of (Kept bytes) = read_as_accepted bytes
item_of Long = Err TooLong
