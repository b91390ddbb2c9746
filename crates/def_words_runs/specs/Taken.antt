-- Steps that may be taken: where the conditions of a step hold there is a state to which it leads.
use Rattle.std.specs.Prelude.{◌≡◌, ◌≢◌, ℕ, ◌<◌, ◌≤◌, ℤ, pos, List, ◌∷◌, All, Contains}
use Rattle.def_sums.specs.Limits.{most_workers}
use Rattle.def_words.specs.declared.view.View.TheVariants.{Owner, Worker}
use Rattle.def_words.specs.Amounts.{LastIsComplete}
use Rattle.def_words.specs.Steps.{Adds, Claims, Closes, Joins, Knows, Splits, WordState}

-- a worker claims, whose last job is complete; adds the next amount of it that isn't 0; the owner makes a worker, as
-- long as there may be more; joins one whose last job is complete; and closes once no worker is left to join and a
-- number past the jobs was claimed
pub record MayBeTaken (jobs rows : ℕ) (amount : ℕ → ℕ → ℤ) (before : WordState) : Type 0 where
  pub claim : (seat reached : ℕ) (numbers : List ℕ) → Knows before seat (Worker numbers reached)
      → All (λ n. n < jobs) numbers → LastIsComplete jobs rows amount reached numbers
      → (after : WordState) × Claims jobs rows amount before seat after
  pub add : (seat row job reached : ℕ) (earlier : List ℕ) → Knows before seat (Worker (job ∷ earlier) reached)
      → job < jobs → row < rows → amount job row ≢ pos 0 → reached ≤ row
      → ((r : ℕ) → reached ≤ r → r < row → amount job r ≡ pos 0)
      → (after : WordState) × Adds jobs rows amount before seat row after
  pub split : (seat made unjoined : ℕ) (numbers : List ℕ) → Knows before seat (Owner numbers made unjoined)
      → made < most_workers → (after : WordState) × Splits jobs rows amount before seat after
  pub join : (seat other made unjoined reached : ℕ) (numbers worker_numbers : List ℕ)
      → Knows before seat (Owner numbers made unjoined) → Knows before other (Worker worker_numbers reached)
      → LastIsComplete jobs rows amount reached worker_numbers
      → (after : WordState) × Joins jobs rows amount before seat other after
  pub close : (seat n made : ℕ) (numbers : List ℕ) → Knows before seat (Owner numbers made 0) → Contains numbers n
      → jobs ≤ n → (after : WordState) × Closes jobs rows amount before seat after

abbrev pub StepsMayBeTaken : Type 0
StepsMayBeTaken = (jobs rows : ℕ) (amount : ℕ → ℕ → ℤ) (before : WordState) → MayBeTaken jobs rows amount before
