-- The first leaf of a job that has a row.
use Rattle.std.proofs.Common.{◌≡◌, ℕ, zero, suc, ◌+◌, ◌-◌, ◌<◌, ◌≤◌, Bool, true, false, cond, eqb, ltb, List, [], ◌∷◌, length, get_or, set}
use Rattle.std.proofs.Common.{map, take, drop, refl, ap, sym, subst, ◌∙◌, arith, ⊎_elim, le-ltb, lt-ltb, length-set, Some, None}
use Rattle.std.proofs.Common.{get_or-set_other, get_or-set_same}
use Rattle.std.specs.Prelude.{◌+ℤ◌, Contains, pos, slice_index, unwrap_or}
use Rattle.std.specs.List.Sorted.{IsStrictlyIncreasing}
use Rattle.std.proofs.Math.Seq.{drop-cons, drop-length}
use Rattle.std.proofs.lemmas.Bool.{cases_eq, cond-true, cond-false}
use Rattle.std.proofs.lemmas.List.{ext_get_or, get_or-drop, get_or-map, get_or-take, get_or_default, length-drop, length-map, length-take}
use Rattle.def_tree.specs.declared.Player.{Player}
use Rattle.def_tree.specs.declared.Player.TheVariants.{One, Two}
use Rattle.def_plan.specs.Form.{SequenceForm, Leaf, sequence_count}
use Rattle.def_plan.specs.Payoff.{leaf_sum}
use Rattle.def_plan.specs.Threads.{first_leaf_from, paid_at_leaf}
use Rattle.def_plan.proofs.Rows.{in_row_of_two}
use Rattle.def_history.specs.Ranges.{LeafRange}
use Rattle.def_history.specs.JobPackets.{has_row, touched_rows}
use Rattle.def_history.specs.JobRows.{form_leaf, job_leaves}
use Rattle.def_history.proofs.JobPackets.{touched_rows_are_exact}
use Rattle.xg_touched.specs.Filling.{amount_upto}
use Rattle.xg_touched.specs.Threads.{leaf_numbered, leaves_after, thread_sum}
use Rattle.xg_touched.specs.Touched.{IsRowOf, JobRows, both_rows, first_leaves_with, first_with_row, job_rows, sequence_of_row}
use Rattle.xg_touched.proofs.Following.{goes_on}
use Rattle.xg_touched.proofs.Rising.{differ}
use Rattle.xg_touched.proofs.Touching.{has_one, has_two, which_row}

-- one leaf in front
first_cons : (form : SequenceForm) (row m : ℕ) (x : Leaf) (xs : List Leaf)
    → first_with_row form row m (x ∷ xs) ≡ cond (has_row form x row) (Some m) (first_with_row form row (m + 1) xs)
first_cons form row m x xs = by_test (ltb row (sequence_count form.sets_one))
  where
    by_test : (b : Bool)
        → cond b (first_leaf_from One row m (x ∷ xs)) (first_leaf_from Two (row - sequence_count form.sets_one) m (x ∷ xs))
        ≡ cond (cond b (eqb x.sequence_one row) (eqb x.sequence_two (row - sequence_count form.sets_one))) (Some m)
        (cond b (first_leaf_from One row (m + 1) xs) (first_leaf_from Two (row - sequence_count form.sets_one) (m + 1) xs))
    by_test true = refl
    by_test false = refl

first_nil : (form : SequenceForm) (row m : ℕ) → first_with_row form row m [] ≡ None
first_nil form row m = by_test (ltb row (sequence_count form.sets_one))
  where
    by_test : (b : Bool)
        → cond b (first_leaf_from One row m []) (first_leaf_from Two (row - sequence_count form.sets_one) m []) ≡ None
    by_test true = refl
    by_test false = refl

-- where a leaf has the row there is a first one
first_there : (form : SequenceForm) (row m : ℕ) (leaves : List Leaf) (z : Leaf) → Contains leaves z
    → has_row form z row ≡ true → (n : ℕ) × (first_with_row form row m leaves ≡ Some n)
first_there form row m [] z (k, below, is) has = absurd (omega arith)
first_there form row m (x ∷ xs) z (zero, below, is) has =
    (m, first_cons form row m x xs ∙ cond-true (has_row form x row) (Some m) (first_with_row form row (m + 1) xs) (ap (λ y. has_row form y row) is ∙ has))
first_there form row m (x ∷ xs) z (suc k, below, is) has = by_test (has_row form x row) refl (first_there form row (m + 1) xs z (k, omega arith, is) has)
  where
    by_test : (b : Bool) → has_row form x row ≡ b → (n : ℕ) × (first_with_row form row (m + 1) xs ≡ Some n)
        → (n : ℕ) × (first_with_row form row m (x ∷ xs) ≡ Some n)
    by_test true e later = (m, first_cons form row m x xs ∙ cond-true (has_row form x row) (Some m) (first_with_row form row (m + 1) xs) e)
    by_test false e (n, later) =
        (n, first_cons form row m x xs ∙ cond-false (has_row form x row) (Some m) (first_with_row form row (m + 1) xs) e ∙ later)

-- the first leaf that is kept of a touched row is one
pub first_read : (form : SequenceForm) (m : ℕ) (leaves : List Leaf) (rows firsts : List ℕ) (i row leaf : ℕ)
    → rows ≡ touched_rows form leaves → firsts ≡ first_leaves_with form m leaves rows → i < length rows
    → row ≡ get_or rows i row → leaf ≡ get_or firsts i leaf → first_with_row form row m leaves ≡ Some leaf
first_read form m leaves rows firsts i row leaf rows_are firsts_are below row_is leaf_is =
    let f : ℕ → ℕ = λ r. unwrap_or (first_with_row form r m leaves) 0 in
    let there : Contains (touched_rows form leaves) row = subst (λ rs. Contains rs row) rows_are (i, below, sym row_is) in
    let exact = (touched_rows_are_exact form leaves row).0 there in
    let found = first_there form row m leaves exact.1.0 exact.1.1 exact.1.2 in
    let read : leaf ≡ f row =
    leaf_is ∙ ap (λ zs. get_or zs i leaf) firsts_are ∙ get_or-map f rows i row leaf below ∙ ap f (sym row_is) in
    let is : leaf ≡ found.0 = read ∙ ap (λ o. unwrap_or o 0) found.1 in
    found.1 ∙ ap Some (sym is)

-- the thread from a leaf on brings this amount
pub record IsThread (player : Player) (leaves : List Leaf) (against : List ℕ) (leaf last : ℕ)
    (amount : Rattle.std.specs.Prelude.ℤ) : Type 0 where
  pub from_one : 1 ≤ leaf
  pub in_order : leaf ≤ last
  pub sum : thread_sum player leaves against leaf last ≡ amount

thread_from : (player : Player) (leaves : List Leaf) (against : List ℕ) (s first count leaf : ℕ)
    → first + count ≤ length leaves
    → first_leaf_from player s (first + 1) (take count (drop first leaves)) ≡ Some leaf
    → IsThread player leaves against leaf (first + count) (leaf_sum player (take count (drop first leaves)) against s)
thread_from player leaves against s first count leaf within e =
    let all : count ≡ first + count - first = omega arith in
    let found : first_leaf_from player s (first + 1) (leaves_after leaves first (first + count)) ≡ Some leaf =
    ap (λ k. first_leaf_from player s (first + 1) (take k (drop first leaves))) (sym all) ∙ e in
    let step = goes_on player leaves against s first (first + count) leaf (omega arith) within found in
    record {
      from_one = omega (arith, step.after);
      in_order = step.within;
      sum =
          ap
          (λ k. paid_at_leaf player against (leaf_numbered leaves leaf) +ℤ leaf_sum player (leaves_after leaves leaf (first + count)) against k)
          step.own
          ∙ sym step.sum ∙ ap (λ k. leaf_sum player (take k (drop first leaves)) against s) (sym all);
    }

-- the first leaf that has a row of a player is the first that has its sequence
first_of_row : (player : Player) (form : SequenceForm) (row z : ℕ) (leaves : List Leaf) (n : ℕ) → IsRowOf player form row
    → first_with_row form row z leaves ≡ Some n → first_leaf_from player (sequence_of_row player form row) z leaves ≡ Some n
first_of_row One form row z leaves n below e = sym (cond-true (ltb row (sequence_count form.sets_one)) _ _ (lt-ltb row _ below)) ∙ e
first_of_row Two form row z leaves n past e = sym (cond-false (ltb row (sequence_count form.sets_one)) _ _ (le-ltb row _ past)) ∙ e

-- from the noted leaf of a row on, its thread brings what the job does
pub thread_at : (player : Player) (form : SequenceForm) (against : List ℕ) (job : JobRows) (i leaf : ℕ)
    → job ≡ job_rows form job.range → job.range.first + job.range.count ≤ length form.leaves → i < length job.rows
    → IsRowOf player form (slice_index job.rows i) → leaf ≡ get_or job.first_leaves i leaf
    → IsThread player form.leaves against leaf (job.range.first + job.range.count)
    (leaf_sum player (job_leaves form job.range) against (sequence_of_row player form (slice_index job.rows i)))
thread_at player form against job i leaf is within there own read =
    let leaves : List Leaf = job_leaves form job.range in
    let row : ℕ = slice_index job.rows i in
    let rows_are : job.rows ≡ touched_rows form leaves = ap (λ (x : JobRows). x.rows) is in
    let firsts_are : job.first_leaves ≡ first_leaves_with form (job.range.first + 1) leaves job.rows =
    ap (λ (x : JobRows). x.first_leaves) is ∙ ap (first_leaves_with form (job.range.first + 1) leaves) (sym rows_are) in
    let found = first_read form (job.range.first + 1) leaves job.rows job.first_leaves i row leaf rows_are firsts_are there
    (get_or_default job.rows i 0 row there) read in
    thread_from player form.leaves against (sequence_of_row player form row) job.range.first job.range.count leaf within
    (first_of_row player form row (job.range.first + 1) leaves leaf own found)

-- a row of player two by what its leaves add
pub amount_of_two : (form : SequenceForm) (one two : List ℕ) (range : LeafRange) (row : ℕ) → sequence_count form.sets_one ≤ row
    → leaf_sum Two (job_leaves form range) one (row - sequence_count form.sets_one)
    ≡ amount_upto form one two range.first range.count row
amount_of_two form one two range row past =
    let s : ℕ = row - sequence_count form.sets_one in
    let row_is : sequence_count form.sets_one + s ≡ row = omega arith in
    sym (in_row_of_two form one two (job_leaves form range) s) ∙ ap (λ r. amount_upto form one two range.first range.count r) row_is

-- ---- putting the first leaves, from the last leaf to the first
-- the first leaf behind k of the job's leaves that has the row, or 0
abbrev pub first_behind : SequenceForm → ℕ → ℕ → ℕ → ℕ → ℕ
first_behind form first count k row =
    let leaves = job_leaves form (record { first = first; count = count }) in
    unwrap_or (first_with_row form row (first + k + 1) (drop k leaves)) 0

-- of each row the first leaf behind k of the job's leaves
abbrev pub AreFirstBehind : SequenceForm → ℕ → ℕ → ℕ → List ℕ → List ℕ → Type 0
AreFirstBehind form first count k rows found =
    (j : ℕ) → j < length rows
    → slice_index found j ≡ first_behind form first count k (slice_index rows j)

pub none_behind : (form : SequenceForm) (first count : ℕ) (rows found : List ℕ) → first + count ≤ length form.leaves
    → ((j : ℕ) → j < length rows → slice_index found j ≡ 0) → AreFirstBehind form first count count rows found
none_behind form first count rows found within none j below =
    let leaves : List Leaf = job_leaves form (record { first = first; count = count }) in
    let long : count ≡ length leaves = omega (arith, length-take count (drop first form.leaves), length-drop first form.leaves) in
    let past : drop count leaves ≡ [] = ap (λ k. drop k leaves) long ∙ drop-length leaves in
    let row : ℕ = slice_index rows j in
    none j below
    ∙ sym (ap (λ zs. unwrap_or (first_with_row form row (first + count + 1) zs) 0) past
    ∙ ap (λ o. unwrap_or o 0) (first_nil form row (first + count + 1)))

module _ (form : SequenceForm) (first count k : ℕ) (rows found : List ℕ) (one two : ℕ)
    (within : first + count ≤ length form.leaves) (low : k < count) (up : IsStrictlyIncreasing rows)
    (low_one : one < length rows) (low_two : two < length rows) (room : length found ≡ length rows)
    (fit : (form_leaf form (first + k)).sequence_one < sequence_count form.sets_one)
    (is_one : slice_index rows one ≡ (form_leaf form (first + k)).sequence_one)
    (is_two : slice_index rows two ≡ sequence_count form.sets_one + (form_leaf form (first + k)).sequence_two)
    (behind : AreFirstBehind form first count (k + 1) rows found) where
  abbrev leaves : List Leaf
  leaves = job_leaves form (record { first = first; count = count })

  abbrev x : Leaf
  x = form_leaf form (first + k)

  split : drop k leaves ≡ x ∷ drop (k + 1) leaves
  split =
      let d : Leaf = record { sequence_one = 0; sequence_two = 0; weight = pos 0 } in
      let next : suc k ≡ k + 1 = omega arith in
      let inside : k < length leaves = omega (arith, length-take count (drop first form.leaves), length-drop first form.leaves) in
      let read : get_or leaves k d ≡ x = get_or-take count (drop first form.leaves) k d low ∙ get_or-drop first form.leaves k d in
      drop-cons leaves k d inside ∙ (λ i. read i ∷ drop (next i) leaves)

  -- the leaf behind k others, or those behind it
  at_split : (row : ℕ) → first_with_row form row (first + k + 1) (drop k leaves)
      ≡ cond (has_row form x row) (Some (first + k + 1)) (first_with_row form row (first + k + 1 + 1) (drop (k + 1) leaves))
  at_split row = ap (first_with_row form row (first + k + 1)) split ∙ first_cons form row (first + k + 1) x (drop (k + 1) leaves)

  here : (row : ℕ) → has_row form x row ≡ true → first_behind form first count k row ≡ first + k + 1
  here row has = ap (λ o. unwrap_or o 0) (at_split row ∙ cond-true (has_row form x row) _ _ has)

  elsewhere : (row : ℕ) → has_row form x row ≡ false
      → first_behind form first count k row ≡ first_behind form first count (k + 1) row
  elsewhere row has =
      let number : first + k + 1 + 1 ≡ first + (k + 1) + 1 = omega arith in
      let behind = ap (λ m. first_with_row form row m (drop (k + 1) leaves)) number in
      ap (λ o. unwrap_or o 0) (at_split row ∙ cond-false (has_row form x row) _ _ has ∙ behind)

  not_there : (j : ℕ) → j < length rows → (j ≡ one → ⊥) → (j ≡ two → ⊥) → has_row form x (slice_index rows j) ≡ false
  not_there j below apart_one apart_two = by_test (has_row form x (slice_index rows j)) refl
    where
      which : Contains (both_rows form x) (slice_index rows j) → ⊥
      which (zero, inside, is) = differ rows up one j low_one below apart_one (sym (is_one ∙ is))
      which (suc zero, inside, is) = differ rows up two j low_two below apart_two (sym (is_two ∙ is))
      which (suc (suc k), inside, is) = omega arith

      by_test : (b : Bool) → has_row form x (slice_index rows j) ≡ b → has_row form x (slice_index rows j) ≡ false
      by_test true e = absurd (which (which_row form x (slice_index rows j) e))
      by_test false e = e

  -- one leaf more is put at both its rows
  pub first_put : AreFirstBehind form first count k rows (set (set found one (first + k + 1)) two (first + k + 1))
  first_put j below =
      let m : ℕ = first + k + 1 in
      let known = length-set found one m in
      let at_one = here (slice_index rows one) (ap (has_row form x) is_one ∙ has_one form x fit) in
      let at_two = here (slice_index rows two) (ap (has_row form x) is_two ∙ has_two form x) in
      ⊎_elim
      (λ at.
      ap (slice_index (set (set found one m) two m)) at ∙ get_or-set_same (set found one m) two m 0 (omega arith)
      ∙ sym (ap (λ r. first_behind form first count k r) (ap (slice_index rows) at) ∙ at_two))
      (λ apart_two.
      get_or-set_other (set found one m) two j m 0 apart_two
      ∙ ⊎_elim
      (λ at.
      ap (slice_index (set found one m)) at ∙ get_or-set_same found one m 0 (omega arith)
      ∙ sym (ap (λ r. first_behind form first count k r) (ap (slice_index rows) at) ∙ at_one))
      (λ apart_one.
      get_or-set_other found one j m 0 apart_one ∙ behind j below
      ∙ sym (elsewhere (slice_index rows j) (not_there j below apart_one apart_two)))
      (cases_eq j one))
      (cases_eq j two)

-- with all leaves put, these are the first leaves of all rows
pub all_put : (form : SequenceForm) (first count k : ℕ) (rows found : List ℕ) → k ≡ 0 → length found ≡ length rows
    → AreFirstBehind form first count k rows found
    → found ≡ first_leaves_with form (first + 1) (job_leaves form (record { first = first; count = count })) rows
all_put form first count k rows found none room behind =
    let leaves : List Leaf = job_leaves form (record { first = first; count = count }) in
    let f : ℕ → ℕ = λ r. unwrap_or (first_with_row form r (first + 1) leaves) 0 in
    let number : first + k + 1 ≡ first + 1 = omega arith in
    ext_get_or 0 found (map f rows) (room ∙ sym (length-map rows f))
    (λ j low.
    let below : j < length rows = omega arith in
    behind j below
    ∙ (λ i. unwrap_or (first_with_row form (slice_index rows j) (number i) (drop (none i) leaves)) 0)
    ∙ sym (get_or-map f rows j 0 0 below))
