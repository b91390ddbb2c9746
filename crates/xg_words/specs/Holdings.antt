-- What workers and the owner hold, and which entries of a packet are left to be added.
use Rattle.std.specs.Prelude.{zero, suc, negsuc, ◌≡◌, ℕ, ◌+◌, ◌<◌, ◌≤◌, ◌≢◌, ℤ, pos, List, length}
use Rattle.atomic_table.specs.Seated.{TableId}
use Rattle.def_history.specs.Packets.{RowAmount}
use Rattle.xg_rowcore.specs.Packets.{entry_in}

-- the table of a worker, the numbers that it claimed, the last one first, and the row below which the last one's
-- amounts are added
pub record WorkerClaims : Type 0 where
  pub table : TableId
  pub numbers : List ℕ
  pub reached : ℕ

-- the table of an owner, the numbers of the workers that it joined, how many workers it made, and how many of these it
-- has not joined yet
pub record OwnerClaims : Type 0 where
  pub table : TableId
  pub numbers : List ℕ
  pub made : ℕ
  pub unjoined : ℕ

-- of a job's entries those from a place on are left: their rows are not reached yet, and at the other rows that are not
-- reached the job's amount is 0
pub record AreLeft (amount : ℕ → ℕ → ℤ) (rows job : ℕ) (entries : List RowAmount) (i reached : ℕ) : Type 0 where
  pub rows_after : (k : ℕ) → i ≤ k → k < length entries → reached ≤ (entry_in entries k).row
  pub nothing_else : (row : ℕ) → reached ≤ row → row < rows
      → ((k : ℕ) → i ≤ k → k < length entries → (entry_in entries k).row ≢ row) → amount job row ≡ pos 0

-- the row that is reached once an amount was added at a row, if it isn't 0
abbrev pub reached_after : ℕ → ℤ → ℕ → ℕ
reached_after row (pos zero) reached = reached
reached_after row (pos (suc n)) reached = row + 1
reached_after row (negsuc n) reached = row + 1
