-- Each step keeps the rule.
use Rattle.std.proofs.Common.{◌≡◌, ◌≢◌, ℕ, zero, suc, ◌+◌, ◌-◌, ◌*◌, ◌%◌, ◌^◌, ◌<◌, ◌≤◌, Bool, true, false, cond, eqb, ltb, leb, List, [], ◌∷◌, ◌++◌, set}
use Rattle.std.proofs.Common.{length, All, ℤ, pos, negsuc, unsigned_abs, slice_index, refl, sym, ap, ◌∙◌, subst, inl, inr, arith}
use mathlib.Core.Option.{some, some-injective, some-ne-none}
use lib.ListN.{get_elem?}
use Rattle.std.proofs.lemmas.Bool.{cases_lt, cases_eq}
use Rattle.std.proofs.lemmas.Bool.Decides.{nat_tests}
use Rattle.std.proofs.lemmas.List.{length-set, get_or-set_same, get_or-set_other}
use Rattle.std.proofs.lemmas.List.Elements.{All-set, All-push}
use Rattle.std.proofs.lemmas.List.Sums.{sum_by-append, sum_by-cons}
use Rattle.std.proofs.Math.Nat.{mod-eq_of_lt}
use Rattle.std.proofs.lemmas.Bool.{false≢true}
use lib.Signed.{lt_z}
use Rattle.def_sums.proofs.Ranges.{at_most_sum}
use Rattle.def_sums.specs.Sum.{nat_sum_over}
use Rattle.def_sums.specs.Limits.{most_workers}
use Rattle.def_sums.proofs.SumLaws.{nat_sum_over-append, nat_sum_over-add, nat_sum_over-mono, nat_sum_over-factor}
use Rattle.def_history.specs.History.{times}
use Rattle.def_history.proofs.Counts.{times-cons}
use Rattle.def_words.specs.declared.view.View.{View}
use Rattle.def_words.specs.declared.view.View.TheVariants.{Owner, Worker, Spent}
use Rattle.def_words.specs.Views.{numbers_of, made_of, unjoined_of, owner_count, worker_count}
use Rattle.def_words.specs.Amounts.{Side, positive, negative, side_of, size_at, word_at, row_of, brings, brought_so_far, added_in, AreSmall, LastIsComplete}
use Rattle.def_words.specs.Rule.{AreWordsKept, ViewFits, past_jobs}
use Rattle.def_words.proofs.Sums.{elem_set_other, sum_set, sum_snoc, sum_has, sum_only}
use Rattle.def_words.proofs.Brought.{size_zero, brings_own, whole_list, times-append, added_small}

-- what the rule says of a view at its place
pub fits_at : (jobs : ℕ) (views : List View) (id : ℕ) (v : View) → All (ViewFits jobs) views → get_elem? views id ≡ some v → ViewFits jobs v
fits_at jobs [] id v all e = absurd (some-ne-none v (sym e))
fits_at jobs (x ∷ xs) zero v all e = subst (ViewFits jobs) (some-injective x v e) (all 0 x (omega arith))
fits_at jobs (x ∷ xs) (suc id) v all e = fits_at jobs xs id v (λ k d below. all (suc k) d (omega arith)) e

-- the claim word is at most the number of jobs and of workers together
pub claims_few : (jobs rows : ℕ) (amount : ℕ → ℕ → ℤ) (words : List ℕ) (views : List View) → AreWordsKept jobs rows amount words views → slice_index words 0
    ≤ jobs + most_workers
claims_few jobs rows amount words views k =
    let a = nat_sum_over-mono (λ v. past_jobs jobs (numbers_of v) + unjoined_of v) (λ v. made_of v + worker_count v) views (λ i d h. (k.fits i d h).past) in
    let b = nat_sum_over-add (λ v. past_jobs jobs (numbers_of v)) unjoined_of views in
    let c = nat_sum_over-add made_of worker_count views in
    let d = nat_sum_over-mono made_of (λ v. owner_count v * most_workers) views (λ i d h. let e = (k.fits i d h).made in omega (arith, e)) in
    let e = nat_sum_over-factor most_workers owner_count views in
    omega (arith, a, b, c, d, e, k.owner, k.unjoined, k.past)

past-cons : (jobs n : ℕ) (ns : List ℕ) → past_jobs jobs (n ∷ ns) ≡ cond (leb jobs n) 1 0 + past_jobs jobs ns
past-cons jobs n ns = sum_by-cons (λ (m : ℕ). cond (leb jobs m) 1 0) n ns

past-append : (jobs : ℕ) (xs ys : List ℕ) → past_jobs jobs (xs ++ ys) ≡ past_jobs jobs xs + past_jobs jobs ys
past-append jobs xs ys = sum_by-append _ xs ys

past_none : (jobs : ℕ) (ns : List ℕ) → All (λ n. n < jobs) ns → past_jobs jobs ns ≡ 0
past_none jobs [] all = refl
past_none jobs (n ∷ ns) all =
    let here : n < jobs = all 0 0 (omega arith) in
    let rest = past_none jobs ns (λ k d below. all (suc k) d (omega arith)) in
    let first = past-cons jobs n ns in
    grind (arith, nat_tests, here, rest, first)

-- ---- claim
nothing_reached : (row k : ℕ) → cond (ltb row 0) k 0 ≡ 0
nothing_reached row k = grind (arith, nat_tests)

pub word_after : (words : List ℕ) (i x : ℕ) → i < length words → slice_index (set words i x) i ≡ x
word_after words i x below = get_or-set_same words i x 0 below

pub word_other : (words : List ℕ) (i j x : ℕ) → j ≢ i → slice_index (set words i x) j ≡ slice_index words j
word_other words i j x apart = get_or-set_other words i j x 0 apart

pub word_not_zero : (side : Side) (row : ℕ) → word_at side row ≢ 0
word_not_zero positive row = λ e. omega (arith, e)
word_not_zero negative row = λ e. omega (arith, e)

pub claims_kept : (jobs rows : ℕ) (amount : ℕ → ℕ → ℤ) (words : List ℕ) (views : List View) (id : ℕ) (numbers : List ℕ) (reached : ℕ)
    → AreSmall jobs rows amount → All (λ n. n < jobs) numbers → LastIsComplete jobs rows amount reached numbers → AreWordsKept jobs rows amount words views
    → get_elem? views id ≡ some (Worker numbers reached)
    → AreWordsKept jobs rows amount (set words 0 ((slice_index words 0 + 1) % 18446744073709551616)) (set views id (Worker (slice_index words 0 ∷ numbers) 0))
claims_kept jobs rows amount words views id numbers reached small below complete k at =
    let n : ℕ = slice_index words 0 in
    let v : View = Worker numbers reached in
    let w : View = Worker (n ∷ numbers) 0 in
    let few : n ≤ jobs + most_workers = claims_few jobs rows amount words views k in
    let wraps : (n + 1) % 18446744073709551616 ≡ n + 1 = mod-eq_of_lt (omega (arith, few, small.few)) in
    let after : slice_index (set words 0 ((n + 1) % 18446744073709551616)) 0 ≡ n
    + 1 = word_after words 0 ((n + 1) % 18446744073709551616) (omega (arith, k.count)) ∙ wraps in
    record {
      count = length-set words 0 ((n + 1) % 18446744073709551616) ∙ k.count;
      claimed = λ m.
          let a = sum_set (λ u. times m (numbers_of u)) views id v w at in
          let b = k.claimed m in
          let c = times-cons m n numbers in
          rw after (claimed_more m n _ _ _ a b c);
      owner = (let a = sum_set owner_count views id v w at in omega (arith, a, k.owner));
      unjoined = (let a = sum_set unjoined_of views id v w at in let b = sum_set worker_count views id v w at in omega (arith, a, b, k.unjoined));
      past =
          (let a = sum_set (λ u. past_jobs jobs (numbers_of u)) views id v w at in
          let c = past-cons jobs n numbers in
          rw after (past_more jobs n _ _ _ _ a k.past c));
      fits = All-set (ViewFits jobs) views id w (record {
        past = (let c = past-cons jobs n numbers in let d = past_none jobs numbers below in omega
            (arith, c, d, at_most_one (leb jobs n)));
        made = omega arith;
      }) k.fits;
      sums = λ side row here.
          let f : ℕ → ℕ = brings jobs amount side row in
          let a = sum_set (added_in f row) views id v w at in
          let b = whole_list jobs rows amount side row reached numbers here complete in
          let c = k.sums side row here in
          let d = word_other words 0 (word_at side row) ((n + 1) % 18446744073709551616) (word_not_zero side row) in
          let e = nothing_reached row (f n) in
          omega (arith, a, b, c, d, e);
    }
  where
    at_most_one : (b : Bool) → cond b 1 0 ≤ 1
    at_most_one true = omega arith
    at_most_one false = omega arith

    claimed_more : (m n after before old : ℕ) → after + old ≡ before + times m (n ∷ numbers) → before ≡ cond (ltb m n) 1 0 → times m (n ∷ numbers)
        ≡ cond (eqb n m) 1 0 + old → after ≡ cond (ltb m (n + 1)) 1 0
    claimed_more m n after before old a b c = grind (arith, nat_tests, a, b, c)

    past_more : (jobs n after before old new : ℕ) → after + old ≡ before + new → before ≡ n - jobs → new ≡ cond (leb jobs n) 1 0 + old → after ≡ n + 1 - jobs
    past_more jobs n after before old new a b c = grind (arith, nat_tests, a, b, c)

-- ---- add
-- the words of two rows, or of two sides, are two words
other_side_positive : (row row' : ℕ) → word_at positive row' ≢ word_at negative row
other_side_positive row row' = λ e. omega (arith, e)

other_side_negative : (row row' : ℕ) → word_at negative row' ≢ word_at positive row
other_side_negative row row' = λ e. omega (arith, e)

pub word_fits : (side : Side) (row rows : ℕ) → row < rows → word_at side row < 2 * rows + 1
word_fits positive row rows below = omega arith
word_fits negative row rows below = omega arith

other_row : (side : Side) (row row' : ℕ) → row' ≢ row → word_at side row' ≢ word_at side row
other_row positive row row' apart = λ e. apart (omega (arith, e))
other_row negative row row' apart = λ e. apart (omega (arith, e))

-- what a row's word has after an amount was added at another row or at this one
pub gain : ℤ → ℕ → Side → ℕ → ℕ
gain a row side row' = cond (eqb row' row) (size_at side a) 0

gain_here : (a : ℤ) (row : ℕ) (side : Side) → gain a row side row ≡ size_at side a
unfolding gain
gain_here a row side = grind (arith, nat_tests)

gain_else : (a : ℤ) (row : ℕ) (side : Side) (row' : ℕ) → row' ≢ row → gain a row side row' ≡ 0
unfolding gain
gain_else a row side row' apart = grind (arith, nat_tests)

gain_none : (a : ℤ) (row : ℕ) (side : Side) (row' : ℕ) → size_at side a ≡ 0 → gain a row side row' ≡ 0
unfolding gain
gain_none a row side row' none = grind (arith, nat_tests, none)

own_size : (a : ℤ) → size_at (side_of a) a ≡ unsigned_abs a
own_size (pos n) = refl
own_size (negsuc n) = omega arith

same_side : (words : List ℕ) (side : Side) (row row' x k : ℕ) (a : ℤ) → word_at side row < length words → x ≡ slice_index words (word_at side row)
    + size_at side a
    → slice_index (set words (word_at side row) x) (word_at side row') ≡ slice_index words (word_at side row') + gain a row side row'
same_side words side row row' x k a inside is = elim (cases_eq row' row) [
  | inl same ↦ subst (λ r. slice_index (set words (word_at side row) x) (word_at side r) ≡ slice_index words (word_at side r) + gain a row side r) (sym same)
      (word_after words (word_at side row) x inside ∙ is ∙ ap (λ g. slice_index words (word_at side row) + g) (sym (gain_here a row side)))
  | inr apart ↦ (let u = word_other words (word_at side row) (word_at side row') x (other_row side row row' apart) in let g = gain_else a row side row'
      apart in omega (arith, u, g))
]

words_grown : (words : List ℕ) (row row' rows x : ℕ) (a : ℤ) (side : Side) → length words ≡ 2 * rows + 1 → row < rows
    → x ≡ slice_index words (word_at (side_of a) row) + size_at (side_of a) a
    → slice_index (set words (word_at (side_of a) row) x) (word_at side row') ≡ slice_index words (word_at side row') + gain a row side row'
words_grown words row row' rows x (pos n) positive count below is = same_side words positive row row' x n (pos n)
    (let h = word_fits positive row rows below in omega (arith, h, count)) is
words_grown words row row' rows x (pos n) negative count below is = let u = word_other words (word_at positive row) (word_at negative row') x
    (other_side_negative row row') in let g = gain_none (pos n) row negative row' refl in omega (arith, u, g)
words_grown words row row' rows x (negsuc n) positive count below is = let u = word_other words (word_at negative row) (word_at positive row') x
    (other_side_positive row row') in let g = gain_none (negsuc n) row positive row' refl in omega (arith, u, g)
words_grown words row row' rows x (negsuc n) negative count below is = same_side words negative row row' x n (negsuc n)
    (let h = word_fits negative row rows below in omega (arith, h, count)) is

-- what a list has brought grows by what its last number brings at the row
brought_grown : (jobs : ℕ) (amount : ℕ → ℕ → ℤ) (side : Side) (row row' reached job : ℕ) (earlier : List ℕ) → job < jobs → reached ≤ row
    → ((r : ℕ) → reached ≤ r → r < row → amount job r ≡ pos 0)
    → brought_so_far (brings jobs amount side row') row' (row + 1) (job ∷ earlier) ≡ brought_so_far (brings jobs amount side row') row' reached (job ∷ earlier)
    + gain (amount job row) row side row'
brought_grown jobs amount side row row' reached job earlier is_job after between =
    let f : ℕ → ℕ = brings jobs amount side row' in
    let rest : ℕ = nat_sum_over f earlier in
    let own : f job ≡ size_at side (amount job row') = brings_own jobs amount side row' job is_job in
    elim (cases_lt row' reached) [
      | inl below ↦
          (let g = gain_else (amount job row) row side row' (λ e. omega (arith, e, below, after)) in
          let c : cond (ltb row' (row + 1)) (f job) 0 ≡ cond (ltb row' reached) (f job) 0 = grind (arith, nat_tests, below, after) in
          omega (arith, g, c))
      | inr above ↦ (elim (cases_lt row' row) [
        | inl before ↦
            (let g = gain_else (amount job row) row side row' (λ e. omega (arith, e, before)) in
            let none : f job ≡ 0 = own ∙ size_zero side (amount job row') (between row' above before) in
            let c : cond (ltb row' (row + 1)) (f job) 0 ≡ cond (ltb row' reached) (f job) 0 = grind (arith, nat_tests, none) in
            omega (arith, g, c))
        | inr from ↦ (elim (cases_eq row' row) [
          | inl same ↦
              (let g : gain (amount job row) row side row' ≡ f job = ap (gain (amount job row) row side) same ∙ gain_here (amount job row) row side
              ∙ ap (λ r. size_at side (amount job r)) (sym same) ∙ sym own in
              let c : cond (ltb row' (row + 1)) (f job) 0 ≡ cond (ltb row' reached) (f job) 0 + f job = grind (arith, nat_tests, same, above) in
              omega (arith, g, c))
          | inr apart ↦
              (let g = gain_else (amount job row) row side row' apart in
              let c : cond (ltb row' (row + 1)) (f job) 0 ≡ cond (ltb row' reached) (f job) 0 = grind (arith, nat_tests, from, apart, above) in
              omega (arith, g, c))
        ])
      ])
    ]

pub adds_kept : (jobs rows : ℕ) (amount : ℕ → ℕ → ℤ) (words : List ℕ) (views : List View) (id : ℕ) (job : ℕ) (earlier : List ℕ) (reached row : ℕ)
    → AreSmall jobs rows amount → row < rows → job < jobs → reached ≤ row → ((r : ℕ) → reached ≤ r → r < row → amount job r ≡ pos 0)
    → AreWordsKept jobs rows amount words views
    → get_elem? views id ≡ some (Worker (job ∷ earlier) reached)
    → AreWordsKept jobs rows amount (set words (word_at (side_of (amount job row)) row)
    ((slice_index words (word_at (side_of (amount job row)) row) + unsigned_abs (amount job row)) % 18446744073709551616))
    (set views id (Worker (job ∷ earlier) (row + 1)))
adds_kept jobs rows amount words views id job earlier reached row small below is_job after between k at =
    let a : ℤ = amount job row in
    let side : Side = side_of a in
    let i : ℕ = word_at side row in
    let v : View = Worker (job ∷ earlier) reached in
    let w : View = Worker (job ∷ earlier) (row + 1) in
    let x : ℕ = slice_index words i in
    let grown : (other : Side) (row' : ℕ) → nat_sum_over (added_in (brings jobs amount other row') row') (set views id w)
    ≡ nat_sum_over (added_in (brings jobs amount other row') row') views + gain a row other row' =
    (λ other row'.
    let f : ℕ → ℕ = brings jobs amount other row' in
    let s = sum_set (added_in f row') views id v w at in
    let b = brought_grown jobs amount other row row' reached job earlier is_job after between in
    omega (arith, s, b)) in
    let claimed : (n : ℕ) → nat_sum_over (λ u. times n (numbers_of u)) (set views id w)
    ≡ cond (ltb n (slice_index words 0)) 1 0 = (λ n. let s = sum_set (λ u. times n (numbers_of u)) views id v w at in let b = k.claimed n in omega
    (arith, s, b)) in
    let bound = added_small jobs amount side row (slice_index words 0) (set views id w) claimed in
    let here = grown side row in
    let gained : gain a row side row ≡ unsigned_abs a = gain_here a row side ∙ own_size a in
    let fits : x + unsigned_abs a < 18446744073709551616 = (let s = small.sizes row below in let c = k.sums side row below in omega
    (arith, bound, here, gained, s, c)) in
    let new : ℕ = (x + unsigned_abs a) % 18446744073709551616 in
    let new_is : new ≡ x + size_at side a = mod-eq_of_lt fits ∙ ap (λ g. x + g) (sym (own_size a)) in
    let first : slice_index (set words i new) 0 ≡ slice_index words 0 = word_other words i 0 new (λ e. word_not_zero side row (sym e)) in
    record {
      count = length-set words i new ∙ k.count;
      claimed = λ n. rw first (claimed n);
      owner = (let s = sum_set owner_count views id v w at in omega (arith, s, k.owner));
      unjoined = (let s = sum_set unjoined_of views id v w at in let b = sum_set worker_count views id v w at in omega (arith, s, b, k.unjoined));
      past = rw first (let s = sum_set (λ u. past_jobs jobs (numbers_of u)) views id v w at in omega (arith, s, k.past));
      fits = All-set (ViewFits jobs) views id w (let f = fits_at jobs views id v k.fits at in record { past = f.past; made = f.made }) k.fits;
      sums = λ other row' here'. words_grown words row row' rows new a other k.count below new_is
          ∙ ap (λ t. t + gain a row other row') (k.sums other row' here') ∙ sym (grown other row');
    }

-- ---- split
pub splits_kept : (jobs rows : ℕ) (amount : ℕ → ℕ → ℤ) (words : List ℕ) (views : List View) (id : ℕ) (numbers : List ℕ) (made unjoined : ℕ)
    → made < most_workers → AreWordsKept jobs rows amount words views → get_elem? views id ≡ some (Owner numbers made unjoined)
    → AreWordsKept jobs rows amount words (set views id (Owner numbers (made + 1) (unjoined + 1)) ++ Worker [] 0 ∷ [])
splits_kept jobs rows amount words views id numbers made unjoined few k at =
    let v : View = Owner numbers made unjoined in
    let w : View = Owner numbers (made + 1) (unjoined + 1) in
    let u : View = Worker [] 0 in
    let fit = fits_at jobs views id v k.fits at in
    let sum = (λ (f : View → ℕ). sum_snoc f (set views id w) u) in
    let was = (λ (f : View → ℕ). sum_set f views id v w at) in
    record {
      count = k.count;
      claimed = λ n. let f : View → ℕ = λ z. times n (numbers_of z) in let a = sum f in let b = was f in let c = k.claimed n in omega (arith, a, b, c);
      owner = (let a = sum owner_count in let b = was owner_count in omega (arith, a, b, k.owner));
      unjoined = (let a = sum unjoined_of in let b = was unjoined_of in let c = sum worker_count in let d = was worker_count in omega
          (arith, a, b, c, d, k.unjoined));
      past = (let f : View → ℕ = λ z. past_jobs jobs (numbers_of z) in let a = sum f in let b = was f in omega (arith, a, b, k.past));
      fits = All-push (ViewFits jobs) (set views id w) u (All-set (ViewFits jobs) views id w
          (record { past = omega (arith, fit.past); made = omega (arith, few) }) k.fits) (record { past = omega arith; made = omega arith });
      sums = λ side row here. let f : View → ℕ = added_in (brings jobs amount side row) row in let a = sum f in let b = was f in let c = k.sums side row
          here in omega (arith, a, b, c);
    }

-- ---- join
-- there is one owner, so its view counts all workers
not_owner : (v : View) → owner_count v ≡ 0 → unjoined_of v ≡ 0
not_owner (Owner numbers made unjoined) e = absurd (omega (arith, e))
not_owner (Worker numbers reached) e = refl
not_owner Spent e = refl

pub all_out : (jobs rows : ℕ) (amount : ℕ → ℕ → ℤ) (words : List ℕ) (views : List View) (id : ℕ) (numbers : List ℕ) (made unjoined : ℕ)
    → AreWordsKept jobs rows amount words views → get_elem? views id ≡ some (Owner numbers made unjoined) → nat_sum_over worker_count views ≡ unjoined
all_out jobs rows amount words views id numbers made unjoined k at = sym k.unjoined
    ∙ sum_only unjoined_of owner_count views id (Owner numbers made unjoined) at not_owner (sym k.owner)

pub owner_no_worker : (numbers : List ℕ) (made unjoined : ℕ) (ns : List ℕ) (reached : ℕ) → Owner numbers made unjoined ≢ Worker ns reached
owner_no_worker numbers made unjoined ns reached same = let e = ap owner_count same in absurd (omega (arith, e))

pub joins_kept : (jobs rows : ℕ) (amount : ℕ → ℕ → ℤ) (words : List ℕ) (views : List View) (id : ℕ) (numbers : List ℕ) (made unjoined : ℕ) (other : ℕ)
    (ns : List ℕ) (reached : ℕ)
    → LastIsComplete jobs rows amount reached ns → AreWordsKept jobs rows amount words views → get_elem? views id ≡ some (Owner numbers made unjoined)
    → get_elem? views other ≡ some (Worker ns reached)
    → AreWordsKept jobs rows amount words (set (set views id (Owner (ns ++ numbers) made (unjoined - 1))) other Spent)
joins_kept jobs rows amount words views id numbers made unjoined other ns reached complete k at was =
    let v : View = Owner numbers made unjoined in
    let b : View = Owner (ns ++ numbers) made (unjoined - 1) in
    let w : View = Worker ns reached in
    let apart : other ≢ id = λ same. owner_no_worker numbers made unjoined ns reached (some-injective v w (sym at ∙ ap (get_elem? views) (sym same) ∙ was)) in
    let there : get_elem? (set views id b) other ≡ some w = elem_set_other views id other b apart ∙ was in
    let one = sum_set {A = View} in
    let fit = fits_at jobs views id v k.fits at in
    let other_fit = fits_at jobs views other w k.fits was in
    let some_out : 1 ≤ unjoined = (let h = sum_has worker_count views other w was in let o = all_out jobs rows amount words views id numbers made unjoined k
    at in omega (arith, h, o)) in
    let first = (λ (f : View → ℕ). sum_set f views id v b at) in
    let second = (λ (f : View → ℕ). sum_set f (set views id b) other w Spent there) in
    record {
      count = k.count;
      claimed = λ n. let f : View → ℕ = λ z. times n (numbers_of z) in let x = first f in let y = second f in let z = k.claimed n in let t = times-append n ns
          numbers in omega (arith, x, y, z, t);
      owner = (let x = first owner_count in let y = second owner_count in omega (arith, x, y, k.owner));
      unjoined = (let x = first unjoined_of in let y = second unjoined_of in let x' = first worker_count in let y' = second worker_count in omega
          (arith, x, y, x', y', k.unjoined, some_out));
      past = (let f : View → ℕ = λ z. past_jobs jobs (numbers_of z) in let x = first f in let y = second f in let t = past-append jobs ns numbers in omega
          (arith, x, y, t, k.past));
      fits = All-set (ViewFits jobs) (set views id b) other Spent (record { past = omega arith; made = omega arith })
          (All-set (ViewFits jobs) views id b (record {
            past = (let t = past-append jobs ns numbers in omega (arith, t, fit.past, other_fit.past, some_out));
            made = fit.made;
          }) k.fits);
      sums = λ side row here.
          let g : ℕ → ℕ = brings jobs amount side row in
          let f : View → ℕ = added_in g row in
          let x = first f in
          let y = second f in
          let z = k.sums side row here in
          let t = nat_sum_over-append g ns numbers in
          let c = whole_list jobs rows amount side row reached ns here complete in
          omega (arith, x, y, z, t, c);
    }

-- ---- the amount of a job at a row, and its word
pub amount_small : (jobs rows : ℕ) (amount : ℕ → ℕ → ℤ) (job row : ℕ) → AreSmall jobs rows amount → job < jobs → row < rows → unsigned_abs (amount job row) < 2
    ^ 62
amount_small jobs rows amount job row small is_job below =
    let a = at_most_sum (λ j. unsigned_abs (amount j row)) 0 jobs job (omega arith) (omega (arith, is_job)) in
    let b = small.sizes row below in
    omega (arith, a, b)

pub row_of_word : (side : Side) (row : ℕ) → row_of (word_at side row) ≡ row
row_of_word positive row = omega arith
row_of_word negative row = omega arith

pub side_positive : (a : ℤ) → lt_z (pos 0) a ≡ true → side_of a ≡ positive
side_positive (pos n) h = refl
side_positive (negsuc n) h = absurd (false≢true h)

pub side_negative : (a : ℤ) → lt_z (pos 0) a ≡ false → a ≢ pos 0 → side_of a ≡ negative
side_negative (pos n) h apart = absurd (apart (ap pos (zero n h)))
  where
    zero : (n : ℕ) → lt_z (pos 0) (pos n) ≡ false → n ≡ 0
    zero n h = grind (arith, nat_tests, h)
side_negative (negsuc n) h apart = refl
