-- The rows that a job's leaves have make its packet.
use Rattle.std.proofs.Common.{◌≡◌, ◌≢◌, ℕ, zero, suc, ◌+◌, ◌-◌, ◌<◌, ◌≤◌, Bool, true, false, cond, eqb, ltb, ◌||◌, List, [], ◌∷◌, length, map, refl, sym, ap}
use Rattle.std.proofs.Common.{◌∙◌, subst, arith}
use Rattle.std.specs.Prelude.{ℤ, pos, ◌+ℤ◌, All, Contains, filter, slice_index_or}
use Rattle.std.specs.List.{range_with_len}
use Rattle.std.proofs.lemmas.List.Elements.{All-nil, All-cons}
use Rattle.std.proofs.lemmas.Bool.Decides.{nat_tests}
use Rattle.std.proofs.Math.Bool.{or-true}
use Rattle.def_sums.specs.Sum.{sum_over}
use Rattle.def_sums.proofs.RingLaws.{zero-+ℤ}
use Rattle.def_tree.specs.declared.Player.TheVariants.{One, Two}
use Rattle.def_plan.specs.Form.{SequenceForm, Leaf, sequence_count}
use Rattle.def_history.specs.Ranges.{LeafRange}
use Rattle.def_history.specs.Leaves.{job_amount, amounts}
use Rattle.def_history.specs.Packets.{RowAmount, AreRising}
use Rattle.def_plan.specs.FormRows.{row_count, amount_at, amount_in_row}
use Rattle.def_history.specs.JobRows.{leaf_amount, job_leaves}
use Rattle.def_history.specs.JobPackets.{has_row, is_touched, packet_of, TouchedRowsAreExact, TouchedRowsMakePackets}
use Rattle.def_history.proofs.JobRows.{by_number}
use Rattle.def_sums.proofs.RisingLists.{Contains-head, Contains-tail}

-- ---- entries at the numbers of a range that pass a test
abbrev kept : (ℕ → ℤ) → (ℕ → Bool) → ℕ → ℕ → List RowAmount
kept amount test from count = map (λ (row : ℕ). record { row = row; amount = amount row }) (filter test (range_with_len from count))

-- what holds of the entry at each number of the range holds of each that is kept
all_kept : (P : RowAmount → Type 0) (amount : ℕ → ℤ) (test : ℕ → Bool) (from count : ℕ)
    → ((row : ℕ) → from ≤ row → row < from + count → P (record { row = row; amount = amount row }))
    → All P (kept amount test from count)
all_kept P amount test from zero holds = All-nil P
all_kept P amount test from (suc count) holds = by_test (test from) refl (all_kept P amount test (from + 1) count
    (λ row low high. holds row (omega arith) (omega arith)))
  where
    by_test : (b : Bool) → test from ≡ b → All P (kept amount test (from + 1) count)
        → All P (kept amount test from (suc count))
    by_test true e later = rw e (All-cons P (record { row = from; amount = amount from }) (kept amount test (from + 1) count)
        (holds from (omega arith) (omega arith)) later)
    by_test false e later = rw e later

rising : (amount : ℕ → ℤ) (test : ℕ → Bool) (from count : ℕ) → AreRising (kept amount test from count)
rising amount test from zero = tt
rising amount test from (suc count) = by_test (test from) refl (rising amount test (from + 1) count)
  where
    by_test : (b : Bool) → test from ≡ b → AreRising (kept amount test (from + 1) count)
        → AreRising (kept amount test from (suc count))
    by_test true e later = rw e (all_kept (λ (x : RowAmount). from < x.row) amount test (from + 1) count (λ row low high. omega arith), later)
    by_test false e later = rw e later

-- no entry has a number of the range that passes: there is none
passes_is_kept : (amount : ℕ → ℤ) (test : ℕ → Bool) (from count row : ℕ) → from ≤ row → row < from + count
    → test row ≡ true → All (λ (x : RowAmount). x.row ≢ row) (kept amount test from count) → ⊥
passes_is_kept amount test from zero row low high passes none = absurd (omega arith)
passes_is_kept amount test from (suc count) row low high passes none =
    by_place (λ next others. passes_is_kept amount test (from + 1) count row next (omega arith) passes others) (eqb from row) refl (test from) refl
  where
    by_place : (from + 1 ≤ row → All (λ (x : RowAmount). x.row ≢ row) (kept amount test (from + 1) count) → ⊥)
        → (here : Bool) → eqb from row ≡ here → (b : Bool) → test from ≡ b → ⊥
    by_place later true h true e =
        let is : from ≡ row = grind (arith, nat_tests) in
        let others = rw e at none in
        others 0 (record { row = from; amount = amount from }) (omega arith) is
    by_place later true h false e = let is : from ≡ row = grind (arith, nat_tests) in let t : test from ≡ true = ap test is ∙ passes in cc
    by_place later false h true e =
        let next : from + 1 ≤ row = grind (arith, nat_tests) in
        let others = rw e at none in
        later next (λ k d inside. others (suc k) d (omega arith))
    by_place later false h false e =
        let next : from + 1 ≤ row = grind (arith, nat_tests) in
        later next (rw e at none)

-- ---- a row that no leaf has
no_leaf_no_amount : (form : SequenceForm) (numbers_one numbers_two : List ℕ) (row : ℕ) (leaves : List Leaf)
    → is_touched form leaves row ≡ false
    → sum_over (λ z. amount_in_row form numbers_one numbers_two z row) leaves ≡ pos 0
no_leaf_no_amount form numbers_one numbers_two row [] untouched = refl
no_leaf_no_amount form numbers_one numbers_two row (z ∷ leaves) untouched =
    let here : has_row form z row ≡ false = or-left (has_row form z row) (is_touched form leaves row) untouched in
    let there : is_touched form leaves row ≡ false = or-right (has_row form z row) (is_touched form leaves row) untouched in
    ap (λ a. a +ℤ sum_over (λ x. amount_in_row form numbers_one numbers_two x row) leaves) (nothing (ltb row (sequence_count form.sets_one)) here)
    ∙ zero-+ℤ (sum_over (λ x. amount_in_row form numbers_one numbers_two x row) leaves)
    ∙ no_leaf_no_amount form numbers_one numbers_two row leaves there
  where
    or-left : (a b : Bool) → (a || b) ≡ false → a ≡ false
    or-left true b e = e
    or-left false b e = refl

    or-right : (a b : Bool) → (a || b) ≡ false → b ≡ false
    or-right true b e = absurd (cc)
    or-right false b e = e

    nothing : (b : Bool)
        → cond b (eqb z.sequence_one row) (eqb z.sequence_two (row - sequence_count form.sets_one)) ≡ false
        → cond b (amount_at One numbers_two z row) (amount_at Two numbers_one z (row - sequence_count form.sets_one))
        ≡ pos 0
    nothing true e = rw e refl
    nothing false e = rw e refl

-- a row of the form that no entry has
untouched_amount : (form : SequenceForm) (numbers_one numbers_two : List ℕ) (range : LeafRange)
    → range.first + range.count ≤ length form.leaves → (row : ℕ) → row < row_count form
    → All (λ (x : RowAmount). x.row ≢ row) (packet_of form numbers_one numbers_two range)
    → job_amount (leaf_amount form numbers_one numbers_two) range row ≡ pos 0
untouched_amount form numbers_one numbers_two range within row is_row none = by_test (is_touched form (job_leaves form range) row) refl
  where
    by_test : (b : Bool) → is_touched form (job_leaves form range) row ≡ b
        → job_amount (leaf_amount form numbers_one numbers_two) range row ≡ pos 0
    by_test true e = absurd (passes_is_kept (λ r. job_amount (leaf_amount form numbers_one numbers_two) range r) (is_touched form (job_leaves form range)) 0
        (row_count form) row (omega arith) (omega arith) e none)
    by_test false e = by_number form numbers_one numbers_two range row within ∙ no_leaf_no_amount form numbers_one numbers_two row (job_leaves form range) e

-- a job's amounts at the rows that its leaves have are its packet
pub touched_rows_make_packets : TouchedRowsMakePackets
touched_rows_make_packets form numbers_one numbers_two ranges job within =
    let range : LeafRange = slice_index_or ranges job (record { first = 0; count = 0 }) in
    let amount : ℕ → ℤ = λ row. job_amount (leaf_amount form numbers_one numbers_two) range row in
    let test : ℕ → Bool = is_touched form (job_leaves form range) in
    record {
      rising = rising amount test 0 (row_count form);
      are_rows = all_kept (λ x. x.row < row_count form) amount test 0 (row_count form) (λ row low high. omega arith);
      have_amounts = all_kept (λ x. x.amount ≡ amounts (leaf_amount form numbers_one numbers_two) ranges job x.row) amount test 0 (row_count form)
          (λ row low high. refl);
      nothing_else = untouched_amount form numbers_one numbers_two range within;
    }

-- ---- which rows are touched
touched_is : (form : SequenceForm) (row : ℕ) (leaves : List Leaf) → is_touched form leaves row ≡ true
    → (z : Leaf) × Contains leaves z × (has_row form z row ≡ true)
touched_is form row [] e = absurd (cc)
touched_is form row (x ∷ leaves) e = by_head (touched_is form row leaves) (has_row form x row) refl
  where
    by_head : (is_touched form leaves row ≡ true → (z : Leaf) × Contains leaves z × (has_row form z row ≡ true))
        → (b : Bool) → has_row form x row ≡ b → (z : Leaf) × Contains (x ∷ leaves) z × (has_row form z row ≡ true)
    by_head later true h = (x, Contains-head x leaves, h)
    by_head later false h = let rest = later (rw h at e) in (rest.0, Contains-tail x rest.0 leaves rest.1, rest.2)

is_touched_by : (form : SequenceForm) (row : ℕ) (leaves : List Leaf) (z : Leaf) → Contains leaves z
    → has_row form z row ≡ true → is_touched form leaves row ≡ true
is_touched_by form row [] z (k, below, is) has = absurd (omega arith)
is_touched_by form row (x ∷ leaves) z (zero, below, is) has = let h : has_row form x row ≡ true = ap (λ y. has_row form y row) is ∙ has in rw h refl
is_touched_by form row (x ∷ leaves) z (suc k, below, is) has = let later = is_touched_by form row leaves z (k, omega arith, is) has in rw later
    (or-true (has_row form x row))

in_range_is : (test : ℕ → Bool) (from count row : ℕ) → Contains (filter test (range_with_len from count)) row
    → (from ≤ row) × (row < from + count) × (test row ≡ true)
in_range_is test from zero row (k, below, is) = absurd (omega arith)
in_range_is test from (suc count) row there = by_test (λ later. widen (in_range_is test (from + 1) count row later)) (test from) refl
  where
    widen : (from + 1 ≤ row) × (row < from + 1 + count) × (test row ≡ true)
        → (from ≤ row) × (row < from + suc count) × (test row ≡ true)
    widen (low, high, passes) = (omega arith, omega arith, passes)

    at : (Contains (filter test (range_with_len (from + 1) count)) row
        → (from ≤ row) × (row < from + suc count) × (test row ≡ true))
        → test from ≡ true
        → Contains (from ∷ filter test (range_with_len (from + 1) count)) row
        → (from ≤ row) × (row < from + suc count) × (test row ≡ true)
    at later e (zero, below, is) = let here : from ≡ row = is in (omega arith, omega arith, sym (ap test here) ∙ e)
    at later e (suc k, below, is) = later (k, omega arith, is)

    by_test : (Contains (filter test (range_with_len (from + 1) count)) row
        → (from ≤ row) × (row < from + suc count) × (test row ≡ true))
        → (b : Bool) → test from ≡ b
        → (from ≤ row) × (row < from + suc count) × (test row ≡ true)
    by_test later true e = at later e (rw e at there)
    by_test later false e = later (rw e at there)

is_in_range : (test : ℕ → Bool) (from count row : ℕ) → from ≤ row → row < from + count → test row ≡ true
    → Contains (filter test (range_with_len from count)) row
is_in_range test from zero row low high passes = absurd (omega arith)
is_in_range test from (suc count) row low high passes = by_place (λ next. is_in_range test (from + 1) count row next (omega arith) passes) (eqb from row) refl
    (test from) refl
  where
    by_place : (from + 1 ≤ row → Contains (filter test (range_with_len (from + 1) count)) row) → (here : Bool)
        → eqb from row ≡ here → (b : Bool) → test from ≡ b
        → Contains (filter test (range_with_len from (suc count))) row
    by_place later true h true e =
        let is : from ≡ row = grind (arith, nat_tests) in
        rw e (subst (λ x. Contains (x ∷ filter test (range_with_len (from + 1) count)) row) (sym is)
        (Contains-head row (filter test (range_with_len (from + 1) count))))
    by_place later true h false e = let is : from ≡ row = grind (arith, nat_tests) in let t : test from ≡ true = ap test is ∙ passes in absurd (cc)
    by_place later false h true e =
        let next : from + 1 ≤ row = grind (arith, nat_tests) in
        rw e (Contains-tail from row (filter test (range_with_len (from + 1) count)) (later next))
    by_place later false h false e = let next : from + 1 ≤ row = grind (arith, nat_tests) in rw e (later next)

-- a row of the form is listed exactly where some leaf has its sequence
pub touched_rows_are_exact : TouchedRowsAreExact
touched_rows_are_exact form leaves row = (
  (λ there. let is = in_range_is (is_touched form leaves) 0 (row_count form) row there in (omega (arith, is.1), touched_is form row leaves is.2)),
  (λ (is_row, (z, there, has)). is_in_range (is_touched form leaves) 0 (row_count form) row (omega arith) (omega arith)
      (is_touched_by form row leaves z there has)),
)
