-- Packets: what one job adds, row after row. And where the rows lie in the stripes.
use Rattle.std.specs.Prelude.{◌≡◌, ◌≢◌, ℕ, ℤ, pos, ◌+◌, ◌-◌, ◌*◌, ◌/◌, ◌<◌, ◌↔◌, ◌==◌, if◌then◌else◌, List, [], ◌∷◌}
use Rattle.std.specs.Prelude.{All}
use Rattle.def_sums.specs.Sum.{sum_over}

-- one row's amount
pub record RowAmount : Type 0 where
  pub row : ℕ
  pub amount : ℤ

-- each row is above all those before it
abbrev pub AreRising : List RowAmount → Type 0
AreRising [] = Unit {0}
AreRising (entry ∷ entries) = All (λ later. entry.row < later.row) entries × AreRising entries

-- the entries are a job's: they have its amounts at their rows, and at every other row its amount is 0
pub record IsPacketOf (amount : ℕ → ℕ → ℤ) (rows job : ℕ) (entries : List RowAmount) : Type 0 where
  pub rising : AreRising entries
  pub are_rows : All (λ entry. entry.row < rows) entries
  pub have_amounts : All (λ entry. entry.amount ≡ amount job entry.row) entries
  pub nothing_else : (row : ℕ) → row < rows → All (λ entry. entry.row ≢ row) entries → amount job row ≡ pos 0

-- what the entries bring to a row
abbrev pub brought : List RowAmount → ℕ → ℤ
brought entries row = sum_over (λ entry. if entry.row == row then entry.amount else pos 0) entries

-- a job's packet brings its amount to each row
abbrev pub PacketsBringAmounts : Type 0
PacketsBringAmounts = (amount : ℕ → ℕ → ℤ) (rows job : ℕ) (entries : List RowAmount)
    → IsPacketOf amount rows job entries
    → (row : ℕ) → row < rows → brought entries row ≡ amount job row

-- how many rows lie in a stripe, where there are so many in all
abbrev pub place_count : ℕ → ℕ → ℕ → ℕ
place_count stripes rows stripe = (rows + stripes - 1 - stripe) / stripes

-- exactly the places below this number have a row
abbrev pub StripesHoldTheirRows : Type 0
StripesHoldTheirRows = (stripes rows stripe place : ℕ) → stripe < stripes
    → (place < place_count stripes rows stripe) ↔ (place * stripes + stripe < rows)
