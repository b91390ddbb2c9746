-- What numbers bring to the rows.
use Rattle.std.proofs.Common.{◌≡◌, ℕ, ◌+◌, ◌*◌, ◌<◌, ◌≤◌, Bool, true, false, cond, ltb, List, [], ◌∷◌, ◌++◌, length, ℤ, pos, negsuc, unsigned_abs, refl, ap}
use Rattle.std.proofs.Common.{inl, inr, arith}
use Rattle.std.specs.List.{range_with_len}
use Rattle.std.proofs.lemmas.Bool.{cases_lt}
use Rattle.std.proofs.lemmas.Bool.Decides.{nat_tests}
use Rattle.std.proofs.lemmas.List.Sums.{sum_by-append}
use Rattle.def_sums.specs.Sum.{nat_sum_over}
use Rattle.def_sums.proofs.SumLaws.{nat_sum_over-append, nat_sum_over-mono, nat_sum_over-bounded}
use Rattle.def_sums.proofs.Ranges.{range-append, All-range}
use Rattle.def_history.specs.History.{times, job_numbers}
use Rattle.def_history.proofs.Counts.{times-job_numbers}
use Rattle.def_history.proofs.Locks.{no_greater_sum}
use Rattle.def_words.specs.declared.view.View.{View}
use Rattle.def_words.specs.declared.view.View.TheVariants.{Owner, Worker, Spent}
use Rattle.def_words.specs.Views.{numbers_of}
use Rattle.def_words.specs.Laws.{all_numbers}
use Rattle.def_words.specs.Amounts.{Side, positive, negative, size_at, brings, brought_so_far, added_in, LastIsComplete}

-- an amount of 0 has no size, and none is above the amount's own
pub size_zero : (side : Side) (a : ℤ) → a ≡ pos 0 → size_at side a ≡ 0
size_zero positive a e = ap (size_at positive) e
size_zero negative a e = ap (size_at negative) e

pub size_le : (side : Side) (a : ℤ) → size_at side a ≤ unsigned_abs a
size_le positive (pos n) = omega arith
size_le positive (negsuc n) = omega arith
size_le negative (pos n) = omega arith
size_le negative (negsuc n) = omega arith

-- a number whose amount at a row is 0, where it is a job's, brings nothing there
pub brings_nothing : (jobs : ℕ) (amount : ℕ → ℕ → ℤ) (side : Side) (row n : ℕ) → (n < jobs → amount n row ≡ pos 0) → brings jobs amount side row n ≡ 0
brings_nothing jobs amount side row n none = elim (cases_lt n jobs) [
  | inl is_job ↦
      (let e = size_zero side (amount n row) (none is_job) in grind (arith, nat_tests, e))
  | inr past ↦ grind (arith, nat_tests)
]

pub brings_past : (jobs : ℕ) (amount : ℕ → ℕ → ℤ) (side : Side) (row n : ℕ) → jobs ≤ n → brings jobs amount side row n ≡ 0
brings_past jobs amount side row n past = brings_nothing jobs amount side row n (λ is_job. absurd (omega (arith, past, is_job)))

pub brings_own : (jobs : ℕ) (amount : ℕ → ℕ → ℤ) (side : Side) (row n : ℕ) → n < jobs → brings jobs amount side row n ≡ size_at side (amount n row)
brings_own jobs amount side row n is_job = grind (arith, nat_tests)

pub brings_le : (jobs : ℕ) (amount : ℕ → ℕ → ℤ) (side : Side) (row n : ℕ) → brings jobs amount side row n ≤ unsigned_abs (amount n row)
brings_le jobs amount side row n = let e = size_le side (amount n row) in grind (arith, nat_tests, e)

-- what the last number brings counts where the row is below the one that is reached
once_reached : (f n row reached : ℕ) → (reached ≤ row → f ≡ 0) → cond (ltb row reached) f 0 ≡ f
once_reached f n row reached none = elim (cases_lt row reached) [
  | inl below ↦ grind (arith, nat_tests)
  | inr above ↦
      (let e = none above in grind (arith, nat_tests, e))
]

-- a complete list has brought all that its numbers bring
pub whole_list : (jobs rows : ℕ) (amount : ℕ → ℕ → ℤ) (side : Side) (row reached : ℕ) (numbers : List ℕ) → row < rows
    → LastIsComplete jobs rows amount reached numbers
    → brought_so_far (brings jobs amount side row) row reached numbers ≡ nat_sum_over (brings jobs amount side row) numbers
whole_list jobs rows amount side row reached [] below complete = refl
whole_list jobs rows amount side row reached (n ∷ ns) below complete =
    let f : ℕ → ℕ = brings jobs amount side row in
    let none : reached ≤ row → f n ≡ 0 = λ above. brings_nothing jobs amount side row n (λ is_job. complete n ns refl is_job row above below) in
    ap (λ k. k + nat_sum_over f ns) (once_reached (f n) n row reached none)

pub so_far_le : (f : ℕ → ℕ) (row reached : ℕ) (numbers : List ℕ) → brought_so_far f row reached numbers ≤ nat_sum_over f numbers
so_far_le f row reached [] = omega arith
so_far_le f row reached (n ∷ ns) = omega (arith, below (f n) (ltb row reached))
  where
    below : (k : ℕ) (b : Bool) → cond b k 0 ≤ k
    below k true = omega arith
    below k false = omega arith

pub added_le : (f : ℕ → ℕ) (row : ℕ) (v : View) → added_in f row v ≤ nat_sum_over f (numbers_of v)
added_le f row (Owner numbers made unjoined) = omega arith
added_le f row (Worker numbers reached) = so_far_le f row reached numbers
added_le f row Spent = omega arith

pub times-append : (n : ℕ) (xs ys : List ℕ) → times n (xs ++ ys) ≡ times n xs + times n ys
times-append n xs ys = sum_by-append _ xs ys

pub times_in_all : (n : ℕ) (views : List View) → times n (all_numbers views) ≡ nat_sum_over (λ v. times n (numbers_of v)) views
times_in_all n [] = refl
times_in_all n (v ∷ vs) = omega (arith, times-append n (numbers_of v) (all_numbers vs), times_in_all n vs)

pub sum_in_all : (f : ℕ → ℕ) (views : List View) → nat_sum_over f (all_numbers views) ≡ nat_sum_over (λ v. nat_sum_over f (numbers_of v)) views
sum_in_all f [] = refl
sum_in_all f (v ∷ vs) = omega (arith, nat_sum_over-append f (numbers_of v) (all_numbers vs), sum_in_all f vs)

-- what all numbers from 0 on bring is what the jobs bring
pub only_jobs : (jobs more : ℕ) (amount : ℕ → ℕ → ℤ) (side : Side) (row : ℕ)
    → nat_sum_over (brings jobs amount side row) (job_numbers (jobs + more)) ≡ nat_sum_over (brings jobs amount side row) (job_numbers jobs)
only_jobs jobs more amount side row =
    let f : ℕ → ℕ = brings jobs amount side row in
    let parts = ap (nat_sum_over f) (range-append 0 jobs more) in
    let apart = nat_sum_over-append f (range_with_len 0 jobs) (range_with_len (0 + jobs) more) in
    let none : nat_sum_over f (range_with_len (0 + jobs) more) ≤ length (range_with_len (0 + jobs) more) * 0 =
    nat_sum_over-bounded f 0 (range_with_len (0 + jobs) more) (All-range (λ n. f n ≤ 0) (0 + jobs) more
    (λ n low high. let e = brings_past jobs amount side row n (omega (arith, low)) in omega (arith, e))) in
    omega (arith, parts, apart, none)

-- what views have added is small where each number stands once in them at most
pub added_small : (jobs : ℕ) (amount : ℕ → ℕ → ℤ) (side : Side) (row w : ℕ) (views : List View)
    → ((n : ℕ) → nat_sum_over (λ v. times n (numbers_of v)) views ≡ cond (ltb n w) 1 0)
    → nat_sum_over (added_in (brings jobs amount side row) row) views ≤ nat_sum_over (λ job. unsigned_abs (amount job row)) (job_numbers jobs)
added_small jobs amount side row w views claimed =
    let f : ℕ → ℕ = brings jobs amount side row in
    let a = nat_sum_over-mono (added_in f row) (λ v. nat_sum_over f (numbers_of v)) views (λ k d below. added_le f row _) in
    let b = sum_in_all f views in
    let fewer : (n : ℕ) → times n (all_numbers views) ≤ times n (job_numbers (jobs + w)) =
    (λ n. let x = times_in_all n views in let y = claimed n in let z = times-job_numbers (jobs + w) n in grind (arith, nat_tests, x, y, z)) in
    let c = no_greater_sum f (all_numbers views) (job_numbers (jobs + w)) fewer in
    let d = only_jobs jobs w amount side row in
    let e = nat_sum_over-mono f (λ job. unsigned_abs (amount job row)) (job_numbers jobs) (λ k d' below. brings_le jobs amount side row _) in
    omega (arith, a, b, c, d, e)
