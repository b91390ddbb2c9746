-- The rule over the words and the views of all seats. Word 0 is the claim word.
use Rattle.std.specs.Prelude.{◌≡◌, ℕ, ◌+◌, ◌-◌, ◌*◌, ◌<◌, ◌≤◌, nat_lt, nat_le, if◌then◌else◌, ℤ, List, All, length}
use Rattle.std.specs.Prelude.{slice_index, count_by}
use Rattle.def_sums.specs.Sum.{nat_sum_over}
use Rattle.def_sums.specs.Limits.{most_workers}
use Rattle.def_history.specs.History.{times}
use Rattle.def_words.specs.declared.view.View.{View}
use Rattle.def_words.specs.Views.{numbers_of, made_of, unjoined_of, owner_count, worker_count}
use Rattle.def_words.specs.Amounts.{Side, word_at, brings, added_in}

-- how many numbers of a list are no job's
abbrev pub past_jobs : ℕ → List ℕ → ℕ
past_jobs jobs numbers = count_by (λ n. nat_le jobs n) numbers

-- what the rule says of one view: a worker has at most one number that is no job's, and the owner at most one for each
-- worker that it joined
pub record ViewFits (jobs : ℕ) (v : View) : Type 0 where
  pub past : past_jobs jobs (numbers_of v) + unjoined_of v ≤ made_of v + worker_count v
  pub made : made_of v ≤ most_workers * owner_count v

-- each number below the claim word is claimed once, and no other; there is one owner, and those that it has not joined
-- are the workers; and the words of each row have what the views count as added there
pub record AreWordsKept (jobs rows : ℕ) (amount : ℕ → ℕ → ℤ) (words : List ℕ) (views : List View) : Type 0 where
  pub count : length words ≡ 2 * rows + 1
  pub claimed : (n : ℕ)
      → nat_sum_over (λ v. times n (numbers_of v)) views ≡ (if nat_lt n (slice_index words 0) then 1 else 0)
  pub owner : nat_sum_over owner_count views ≡ 1
  pub unjoined : nat_sum_over unjoined_of views ≡ nat_sum_over worker_count views
  pub past : nat_sum_over (λ v. past_jobs jobs (numbers_of v)) views ≡ slice_index words 0 - jobs
  pub fits : All (ViewFits jobs) views
  pub sums : (side : Side) (row : ℕ) → row < rows
      → slice_index words (word_at side row) ≡ nat_sum_over (added_in (brings jobs amount side row) row) views
