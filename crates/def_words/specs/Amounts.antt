-- What the numbers that were claimed bring to the rows.
use Rattle.std.specs.Prelude.{◌≡◌, ℕ, ◌+◌, ◌-◌, ◌*◌, ◌/◌, ◌^◌, ◌<◌, ◌≤◌, nat_lt, if◌then◌else◌, ℤ, pos, negsuc}
use Rattle.std.specs.Prelude.{unsigned_abs, List, [], ◌∷◌}
use Rattle.def_sums.specs.Sum.{nat_sum_over}
use Rattle.def_history.specs.History.{job_numbers}
use Rattle.def_words.specs.declared.view.View.{View}
use Rattle.def_words.specs.declared.view.View.TheVariants.{Owner, Worker, Spent}

-- the two sides of a row: what is positive and what is negative
pub data Side : Type 0 where
  positive : Side
  negative : Side

abbrev pub side_of : ℤ → Side
side_of (pos n) = positive
side_of (negsuc n) = negative

-- the size of an amount where it is of a side, else 0
abbrev pub size_at : Side → ℤ → ℕ
size_at positive (pos n) = n
size_at positive (negsuc n) = 0
size_at negative (pos n) = 0
size_at negative (negsuc n) = n + 1

-- each row has a word for each side, behind the claim word
abbrev pub word_at : Side → ℕ → ℕ
word_at positive row = 2 * row + 1
word_at negative row = 2 * row + 2

-- the row of a row's word
abbrev pub row_of : ℕ → ℕ
row_of word = (word - 1) / 2

-- what a number that was claimed brings to a row: nothing where it is no job's
abbrev pub brings : ℕ → (ℕ → ℕ → ℤ) → Side → ℕ → ℕ → ℕ
brings jobs amount side row n = if nat_lt n jobs then size_at side (amount n row) else 0

-- what a worker's numbers have brought to a row: all but the last one all of it, and the last one where the row is
-- below the one that is reached
abbrev pub brought_so_far : (ℕ → ℕ) → ℕ → ℕ → List ℕ → ℕ
brought_so_far f row reached [] = 0
brought_so_far f row reached (n ∷ ns) = (if nat_lt row reached then f n else 0) + nat_sum_over f ns

-- what a view counts as added
abbrev pub added_in : (ℕ → ℕ) → ℕ → View → ℕ
added_in f row (Owner numbers made unjoined) = nat_sum_over f numbers
added_in f row (Worker numbers reached) = brought_so_far f row reached numbers
added_in f row Spent = 0

-- one past the greatest sizes of all amounts at a row together
abbrev pub past_sizes : ℕ
past_sizes = 2 ^ 62

-- at each row the sizes of all jobs' amounts together are below it
abbrev pub HaveRoom : ℕ → ℕ → (ℕ → ℕ → ℤ) → Type 0
HaveRoom jobs rows amount = (row : ℕ) → row < rows
    → nat_sum_over (λ job. unsigned_abs (amount job row)) (job_numbers jobs) < past_sizes

-- so are they, and the jobs are few
pub record AreSmall (jobs rows : ℕ) (amount : ℕ → ℕ → ℤ) : Type 0 where
  pub few : jobs < 2 ^ 32
  pub sizes : HaveRoom jobs rows amount

-- a job's amounts from a row on are all 0
abbrev pub NothingFrom : ℕ → (ℕ → ℕ → ℤ) → ℕ → ℕ → Type 0
NothingFrom rows amount from job = (row : ℕ) → from ≤ row → row < rows → amount job row ≡ pos 0

-- the list is empty, or its last number, the first one here, is no job's or a complete job's
abbrev pub LastIsComplete : ℕ → ℕ → (ℕ → ℕ → ℤ) → ℕ → List ℕ → Type 0
LastIsComplete jobs rows amount reached numbers = (n : ℕ) (ns : List ℕ) → numbers ≡ n ∷ ns → n < jobs
    → NothingFrom rows amount reached n

-- the amount is the last job's at the row, and those of the rows since the one that is reached are 0
pub record IsNext (jobs : ℕ) (amount : ℕ → ℕ → ℤ) (row : ℕ) (here : ℤ) (reached : ℕ) (numbers : List ℕ) : Type 0 where
  pub job : ℕ
  pub earlier : List ℕ
  pub last : numbers ≡ job ∷ earlier
  pub is_job : job < jobs
  pub amount_is : here ≡ amount job row
  pub after : reached ≤ row
  pub between : (r : ℕ) → reached ≤ r → r < row → amount job r ≡ pos 0
