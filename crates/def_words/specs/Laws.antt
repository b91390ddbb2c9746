-- The laws of the rule, in words of single views.
use Rattle.std.specs.Prelude.{◌≡◌, ℕ, ◌+◌, ◌-◌, ◌<◌, ◌≤◌, nat_lt, if◌then◌else◌, ℤ, pos, ◌+ℤ◌, List, [], ◌∷◌, ◌++◌}
use Rattle.std.specs.Prelude.{slice_index}
use Rattle.def_sums.specs.Sum.{nat_sum_over}
use Rattle.def_sums.specs.Limits.{most_workers}
use Rattle.def_history.specs.History.{times, sum_over_jobs}
use Rattle.def_words.specs.declared.view.View.{View}
use Rattle.def_words.specs.declared.view.View.TheVariants.{Owner, Worker}
use Rattle.def_words.specs.Views.{numbers_of, worker_count}
use Rattle.def_words.specs.Amounts.{AreSmall, Side, positive, negative, word_at, brings, added_in}
use Rattle.def_words.specs.Rule.{AreWordsKept, past_jobs}
use Rattle.def_words.specs.Steps.{WordState, WordStep, Knows, OneStepLeads, Closes, AreWordsReached, opening_words}

-- the opening keeps the rule, and each step does
pub record StepsKeepTheRule : Type 0 where
  pub at_first : (jobs rows : ℕ) (amount : ℕ → ℕ → ℤ)
      → AreWordsKept jobs rows amount (opening_words rows).words (opening_words rows).views
  pub step : (jobs rows : ℕ) (amount : ℕ → ℕ → ℤ) (before : WordState) (step : WordStep) (after : WordState)
      → AreSmall jobs rows amount → AreWordsKept jobs rows amount before.words before.views
      → OneStepLeads jobs rows amount before step after → AreWordsKept jobs rows amount after.words after.views

-- the numbers of all views, one list behind the other
abbrev pub all_numbers : List View → List ℕ
all_numbers [] = []
all_numbers (v ∷ vs) = numbers_of v ++ all_numbers vs

-- the owner made at most 64 workers, has at most one number past the jobs for each that it joined, and those that it
-- has not joined are the workers that there are
pub record OwnerFits (jobs : ℕ) (views : List View) (numbers : List ℕ) (made unjoined : ℕ) : Type 0 where
  pub few : made ≤ most_workers
  pub past : past_jobs jobs numbers ≤ made - unjoined
  pub unjoined_are : nat_sum_over worker_count views ≡ unjoined

-- what the rule says: each number below the claim word stands once in the lists, and no other; no claim wraps; the
-- owner's view fits, a worker has at most one number past the jobs; and each row's word is the sum of what is added
-- there
pub record Stated (jobs rows : ℕ) (amount : ℕ → ℕ → ℤ) (state : WordState) : Type 0 where
  pub once : (n : ℕ) → times n (all_numbers state.views) ≡ (if nat_lt n (slice_index state.words 0) then 1 else 0)
  pub few_claims : slice_index state.words 0 ≤ jobs + most_workers
  pub owner : (seat : ℕ) (numbers : List ℕ) (made unjoined : ℕ) → Knows state seat (Owner numbers made unjoined)
      → OwnerFits jobs state.views numbers made unjoined
  pub worker : (seat : ℕ) (numbers : List ℕ) (reached : ℕ) → Knows state seat (Worker numbers reached)
      → past_jobs jobs numbers ≤ 1
  pub rows_are : (side : Side) (row : ℕ) → row < rows
      → slice_index state.words (word_at side row) ≡ nat_sum_over (added_in (brings jobs amount side row) row)
      state.views

-- whatever steps were taken
abbrev pub TheRuleHolds : Type 0
TheRuleHolds = (jobs rows : ℕ) (amount : ℕ → ℕ → ℤ) (state : WordState) → AreSmall jobs rows amount
    → AreWordsReached jobs rows amount state → Stated jobs rows amount state

-- where the owner can close, it has each number below the claim word, and the words tell the sums of all jobs' amounts
pub record TellsSums (jobs rows : ℕ) (amount : ℕ → ℕ → ℤ) (state : WordState) (numbers : List ℕ) : Type 0 where
  pub all_claimed : (n : ℕ) → times n numbers ≡ (if nat_lt n (slice_index state.words 0) then 1 else 0)
  pub all_jobs : jobs < slice_index state.words 0
  pub sums : (row : ℕ) → row < rows
      → pos (slice_index state.words (word_at positive row)) ≡ sum_over_jobs amount jobs row
      +ℤ pos (slice_index state.words (word_at negative row))

abbrev pub ClosesWithSums : Type 0
ClosesWithSums = (jobs rows : ℕ) (amount : ℕ → ℕ → ℤ) (before : WordState) (seat : ℕ) (after : WordState)
    → AreSmall jobs rows amount → AreWordsReached jobs rows amount before
    → (closes : Closes jobs rows amount before seat after) → TellsSums jobs rows amount after closes.numbers
