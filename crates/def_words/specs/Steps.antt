-- The steps on the words, and what each does to them and to the views.
use Rattle.std.specs.Prelude.{◌≡◌, ◌≢◌, ℕ, ◌+◌, ◌-◌, ◌*◌, ◌%◌, ◌^◌, ◌<◌, ◌≤◌, ℤ, pos, unsigned_abs}
use Rattle.std.specs.Prelude.{List, [], ◌∷◌, ◌++◌, All, Contains, replicate, slice_index, slice_set}
use mathlib.Core.Option.{some}
use lib.ListN.{get_elem?}
use Rattle.def_sums.specs.Limits.{most_workers}
use Rattle.def_words.specs.declared.view.View.{View}
use Rattle.def_words.specs.declared.view.View.TheVariants.{Owner, Worker, Spent}
use Rattle.def_words.specs.Views.{first_view, new_worker}
use Rattle.def_words.specs.Amounts.{LastIsComplete, side_of, word_at}

pub record WordState : Type 0 where
  pub words : List ℕ
  pub views : List View

-- each kind of step with the number of the seat that takes it: an addition with its row, and a join with the worker's
-- seat, which ends
pub data WordStep : Type 0 where
  claim : (seat : ℕ) → WordStep
  add : (seat row : ℕ) → WordStep
  split : (seat : ℕ) → WordStep
  join : (seat other : ℕ) → WordStep
  close : (seat : ℕ) → WordStep

abbrev pub Knows : WordState → ℕ → View → Type 0
Knows state seat view = get_elem? state.views seat ≡ some view

-- the words with so much more in one of them: each has 64 bits
abbrev pub with_more : List ℕ → ℕ → ℕ → List ℕ
with_more words i more = slice_set words i ((slice_index words i + more) % 2 ^ 64)

module _ (jobs rows : ℕ) (amount : ℕ → ℕ → ℤ) where
  -- a worker whose numbers are all jobs', the last one's complete, takes the number of the claim word
  pub record Claims (before : WordState) (seat : ℕ) (after : WordState) : Type 0 where
    pub numbers : List ℕ
    pub reached : ℕ
    pub worker : Knows before seat (Worker numbers reached)
    pub below : All (λ n. n < jobs) numbers
    pub complete : LastIsComplete jobs rows amount reached numbers
    pub words : after.words ≡ with_more before.words 0 1
    pub views : after.views ≡ slice_set before.views seat (Worker (slice_index before.words 0 ∷ numbers) 0)

  -- a worker adds the next amount of its last job that isn't 0
  pub record Adds (before : WordState) (seat row : ℕ) (after : WordState) : Type 0 where
    pub job : ℕ
    pub earlier : List ℕ
    pub reached : ℕ
    pub worker : Knows before seat (Worker (job ∷ earlier) reached)
    pub is_job : job < jobs
    pub is_row : row < rows
    pub some_amount : amount job row ≢ pos 0
    pub from_reached : reached ≤ row
    pub between : (r : ℕ) → reached ≤ r → r < row → amount job r ≡ pos 0
    pub words : after.words ≡ with_more before.words (word_at (side_of (amount job row)) row)
        (unsigned_abs (amount job row))
    pub views : after.views ≡ slice_set before.views seat (Worker (job ∷ earlier) (row + 1))

  -- the owner makes a worker with an empty list, the last seat now
  pub record Splits (before : WordState) (seat : ℕ) (after : WordState) : Type 0 where
    pub numbers : List ℕ
    pub made : ℕ
    pub unjoined : ℕ
    pub owner : Knows before seat (Owner numbers made unjoined)
    pub few : made < most_workers
    pub words : after.words ≡ before.words
    pub views : after.views ≡ slice_set before.views seat (Owner numbers (made + 1) (unjoined + 1)) ++ new_worker ∷ []

  -- the owner takes the numbers of a worker whose last job, if it has one, is complete
  pub record Joins (before : WordState) (seat other : ℕ) (after : WordState) : Type 0 where
    pub numbers : List ℕ
    pub made : ℕ
    pub unjoined : ℕ
    pub worker_numbers : List ℕ
    pub reached : ℕ
    pub owner : Knows before seat (Owner numbers made unjoined)
    pub worker : Knows before other (Worker worker_numbers reached)
    pub complete : LastIsComplete jobs rows amount reached worker_numbers
    pub words : after.words ≡ before.words
    pub views : after.views ≡ slice_set (slice_set before.views seat
        (Owner (worker_numbers ++ numbers) made (unjoined - 1))) other Spent

  -- the owner, with no worker left to join and a number past the jobs, ends the run: nothing changes
  pub record Closes (before : WordState) (seat : ℕ) (after : WordState) : Type 0 where
    pub numbers : List ℕ
    pub made : ℕ
    pub owner : Knows before seat (Owner numbers made 0)
    pub past : (n : ℕ) × Contains numbers n × (jobs ≤ n)
    pub same : after ≡ before

  abbrev pub OneStepLeads : WordState → WordStep → WordState → Type 0
  OneStepLeads before (claim seat) after = Claims before seat after
  OneStepLeads before (add seat row) after = Adds before seat row after
  OneStepLeads before (split seat) after = Splits before seat after
  OneStepLeads before (join seat other) after = Joins before seat other after
  OneStepLeads before (close seat) after = Closes before seat after

-- all words are 0, and the owner is the only seat
abbrev pub opening_words : ℕ → WordState
opening_words rows = record { words = replicate (2 * rows + 1) 0; views = first_view ∷ [] }

-- steps lead from the opening to a state
pub data AreWordsReached (jobs rows : ℕ) (amount : ℕ → ℕ → ℤ) : WordState → Type 0 where
  at_first : AreWordsReached jobs rows amount (opening_words rows)
  after_step : {before : WordState} (step : WordStep) {after : WordState} → AreWordsReached jobs rows amount before
      → OneStepLeads jobs rows amount before step after → AreWordsReached jobs rows amount after
