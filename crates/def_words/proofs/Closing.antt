-- What the words tell at the end.
use Rattle.std.proofs.Common.{◌≡◌, ℕ, ◌+◌, ◌-◌, ◌<◌, ◌≤◌, Bool, true, false, cond, ltb, List, [], ◌∷◌, ℤ, pos, negsuc, ◌+ℤ◌, slice_index, refl, sym, ap, ◌∙◌}
use Rattle.std.proofs.Common.{arith}
use mathlib.Core.Option.{some}
use lib.ListN.{get_elem?}
use Rattle.std.specs.List.{range_with_len}
use Rattle.std.proofs.lemmas.Bool.Decides.{nat_tests}
use Rattle.std.proofs.lemmas.Int.{ints}
use Rattle.def_sums.specs.Sum.{sum_over, nat_sum_over}
use Rattle.def_sums.proofs.SumLaws.{nat_sum_over-add, sum_over-append, sum_over-same, sum_over-zero}
use Rattle.def_sums.proofs.RingLaws.{+ℤ-zero}
use Rattle.def_sums.proofs.Ranges.{range-append, All-range}
use Rattle.def_history.specs.History.{times, job_numbers, sum_over_jobs}
use Rattle.def_history.proofs.Counts.{times-job_numbers}
use Rattle.def_history.proofs.Ends.{same_sum}
use Rattle.def_words.specs.declared.view.View.{View}
use Rattle.def_words.specs.declared.view.View.TheVariants.{Owner, Worker, Spent}
use Rattle.def_words.specs.Views.{numbers_of, owner_count, worker_count}
use Rattle.def_words.specs.Amounts.{positive, negative, size_at, word_at, brings, added_in}
use Rattle.def_words.specs.Rule.{AreWordsKept}
use Rattle.def_words.proofs.Sums.{sum_only}
use Rattle.def_words.proofs.Moves.{all_out}

-- what a number that was claimed brings, with its sign
own : ℕ → (ℕ → ℕ → ℤ) → ℕ → ℕ → ℤ
own jobs amount row n = cond (ltb n jobs) (amount n row) (pos 0)

sides : (a : ℤ) → pos (size_at positive a) ≡ a +ℤ pos (size_at negative a)
sides (pos n) = omega (arith, ints)
sides (negsuc n) = omega (arith, ints)

own_is : (jobs : ℕ) (amount : ℕ → ℕ → ℤ) (row n : ℕ) → pos (brings jobs amount positive row n) ≡ own jobs amount row n
    +ℤ pos (brings jobs amount negative row n)
unfolding own
own_is jobs amount row n = by_test (ltb n jobs)
  where
    by_test : (b : Bool) → pos (cond b (size_at positive (amount n row)) 0) ≡ cond b (amount n row) (pos 0) +ℤ pos (cond b (size_at negative (amount n row)) 0)
    by_test true = sides (amount n row)
    by_test false = omega (arith, ints)

all_own : (jobs : ℕ) (amount : ℕ → ℕ → ℤ) (row : ℕ) (numbers : List ℕ)
    → pos (nat_sum_over (brings jobs amount positive row) numbers) ≡ sum_over (own jobs amount row) numbers
    +ℤ pos (nat_sum_over (brings jobs amount negative row) numbers)
all_own jobs amount row [] = omega (arith, ints)
all_own jobs amount row (n ∷ ns) = omega (arith, ints, own_is jobs amount row n, all_own jobs amount row ns)

own_job : (jobs : ℕ) (amount : ℕ → ℕ → ℤ) (row n : ℕ) → n < jobs → own jobs amount row n ≡ amount n row
unfolding own
own_job jobs amount row n is_job = grind (arith, nat_tests, is_job)

own_past : (jobs : ℕ) (amount : ℕ → ℕ → ℤ) (row n : ℕ) → jobs ≤ n → own jobs amount row n ≡ pos 0
unfolding own
own_past jobs amount row n past = grind (arith, nat_tests, past)

-- all numbers from 0 on, where all jobs are among them, bring the sum of all jobs' amounts
all_jobs : (jobs more : ℕ) (amount : ℕ → ℕ → ℤ) (row : ℕ) → sum_over (own jobs amount row) (job_numbers (jobs + more)) ≡ sum_over_jobs amount jobs row
all_jobs jobs more amount row =
    let f : ℕ → ℤ = own jobs amount row in
    let g : ℕ → ℤ = λ job. amount job row in
    let apart = ap (sum_over f) (range-append 0 jobs more) ∙ sum_over-append f (range_with_len 0 jobs) (range_with_len (0 + jobs) more) in
    let past = sum_over-same f (λ n. pos 0) (range_with_len (0 + jobs) more)
    (All-range (λ n. f n ≡ pos 0) (0 + jobs) more (λ n low high. own_past jobs amount row n (omega (arith, low))))
    ∙ sum_over-zero (range_with_len (0 + jobs) more) in
    let first = sum_over-same f g (range_with_len 0 jobs) (All-range (λ n. f n ≡ g n) 0 jobs (λ n low high. own_job jobs amount row n (omega (arith, high)))) in
    apart ∙ ap (λ z. sum_over f (range_with_len 0 jobs) +ℤ z) past ∙ +ℤ-zero (sum_over f (range_with_len 0 jobs)) ∙ first

-- a view that is neither the owner's nor a worker's counts for nothing
idle : (f : View → ℕ) → f Spent ≡ 0 → (v : View) → owner_count v + worker_count v ≡ 0 → f v ≡ 0
idle f none (Owner numbers made unjoined) e = absurd (omega (arith, e))
idle f none (Worker numbers reached) e = absurd (omega (arith, e))
idle f none Spent e = none

-- where no worker is left to join, the owner's view counts for all
owner_alone : (jobs rows : ℕ) (amount : ℕ → ℕ → ℤ) (words : List ℕ) (views : List View) (id : ℕ) (numbers : List ℕ) (made : ℕ)
    → AreWordsKept jobs rows amount words views
    → get_elem? views id ≡ some (Owner numbers made 0) → (f : View → ℕ) → f Spent ≡ 0 → nat_sum_over f views ≡ f (Owner numbers made 0)
owner_alone jobs rows amount words views id numbers made k at f none =
    let no_worker = all_out jobs rows amount words views id numbers made 0 k at in
    let both = nat_sum_over-add owner_count worker_count views in
    sum_only f (λ v. owner_count v + worker_count v) views id (Owner numbers made 0) at (idle f none) (omega (arith, both, no_worker, k.owner))

-- and it has each number below the claim word, which are all jobs' where it has one that is no job's
pub all_claimed : (jobs rows : ℕ) (amount : ℕ → ℕ → ℤ) (words : List ℕ) (views : List View) (id : ℕ) (numbers : List ℕ) (made : ℕ)
    → AreWordsKept jobs rows amount words views
    → get_elem? views id ≡ some (Owner numbers made 0) → (m : ℕ) → times m numbers ≡ cond (ltb m (slice_index words 0)) 1 0
all_claimed jobs rows amount words views id numbers made k at m = sym (owner_alone jobs rows amount words views id numbers made k at
    (λ v. times m (numbers_of v)) refl) ∙ k.claimed m

pub jobs_claimed : (jobs : ℕ) (words : List ℕ) (numbers : List ℕ) → ((m : ℕ) → times m numbers ≡ cond (ltb m (slice_index words 0)) 1 0)
    → (n : ℕ) → 1 ≤ times n numbers → jobs ≤ n → jobs < slice_index words 0
jobs_claimed jobs words numbers claimed n there past = let c = claimed n in let under : n
    < slice_index words 0 = grind (arith, nat_tests, c, there) in omega (arith, under, past)

pub closes : (jobs rows : ℕ) (amount : ℕ → ℕ → ℤ) (words : List ℕ) (views : List View) (id : ℕ) (numbers : List ℕ) (made : ℕ)
    → AreWordsKept jobs rows amount words views
    → get_elem? views id ≡ some (Owner numbers made 0) → (n : ℕ) → 1 ≤ times n numbers → jobs ≤ n → (row : ℕ) → row < rows
    → pos (slice_index words (word_at positive row)) ≡ sum_over_jobs amount jobs row +ℤ pos (slice_index words (word_at negative row))
closes jobs rows amount words views id numbers made k at n there past row below =
    let w : ℕ = slice_index words 0 in
    let alone = owner_alone jobs rows amount words views id numbers made k at in
    let claimed : (m : ℕ) → times m numbers ≡ cond (ltb m w) 1 0 = all_claimed jobs rows amount words views id numbers made k at in
    let under : jobs < w = jobs_claimed jobs words numbers claimed n there past in
    let more : w ≡ jobs + (w - jobs) = omega (arith, under) in
    let same : (m : ℕ) → times m numbers ≡ times m (job_numbers (jobs + (w - jobs))) = (λ m. claimed m ∙ ap (λ x. cond (ltb m x) 1 0) more
    ∙ sym (times-job_numbers (jobs + (w - jobs)) m)) in
    let sum = same_sum (own jobs amount row) numbers (job_numbers (jobs + (w - jobs))) same ∙ all_jobs jobs (w - jobs) amount row in
    let ups = k.sums positive row below ∙ alone (added_in (brings jobs amount positive row) row) refl in
    let downs = k.sums negative row below ∙ alone (added_in (brings jobs amount negative row) row) refl in
    ap pos ups ∙ all_own jobs amount row numbers ∙ ap (λ z. z +ℤ pos (nat_sum_over (brings jobs amount negative row) numbers)) sum
    ∙ ap (λ x. sum_over_jobs amount jobs row +ℤ pos x) (sym downs)
