-- The sizes of the jobs' amounts.
use Rattle.std.proofs.Common.{◌≡◌, ℕ, suc, ◌+◌, ◌-◌, ◌*◌, ◌≤◌, Bool, true, false, cond, eqb, ltb, List, [], ◌∷◌, length, get_or, slice_index, arith, ap, sym}
use Rattle.std.proofs.Common.{◌∙◌, refl, add-zero, zero-add}
use Rattle.std.specs.Prelude.{pos, ◌*ℤ◌, unsigned_abs, flat_map}
use Rattle.std.specs.List.{range_with_len}
use Rattle.std.proofs.lemmas.Int.{unsigned_abs-mul}
use Rattle.std.proofs.Math.Nat.{mul-le-mul_left}
use Rattle.def_sums.specs.Sum.{nat_sum_over}
use Rattle.def_sums.proofs.SumLaws.{unsigned_abs-sum_over, nat_sum_over-mono, nat_sum_over-append, nat_sum_over-factor}
use Rattle.def_tree.specs.declared.Player.{Player}
use Rattle.def_tree.specs.declared.Player.TheVariants.{One, Two}
use Rattle.def_tree.specs.Opponent.{opponent}
use Rattle.def_plan.specs.Form.{SequenceForm, Leaf, sequence_count, leaf_sequence}
use Rattle.def_history.specs.Ranges.{LeafRange, leaves_of}
use Rattle.def_history.specs.Leaves.{job_amount, amounts}
use Rattle.def_plan.specs.FormRows.{amount_at, amount_in_row}
use Rattle.def_history.specs.JobRows.{leaf_amount}
use Rattle.def_history.specs.RowLaws.{AmountsAreSmall}

nat_places : {X : Type 0} (f : X → ℕ) (d : X) (xs : List X) (g : ℕ → ℕ) (from : ℕ)
    → ((place : ℕ) → g (from + place) ≡ f (get_or xs place d))
    → nat_sum_over g (range_with_len from (length xs)) ≡ nat_sum_over f xs
nat_places f d [] g from same = refl
nat_places f d (x ∷ xs) g from same =
    let here : g from ≡ f x = ap g (sym (add-zero from)) ∙ same 0 in
    let later : (place : ℕ) → g (from + 1 + place) ≡ f (get_or xs place d) = (λ (place : ℕ). let shift : from + 1 + place ≡ from
    + suc place = omega arith in ap g shift ∙ same (suc place)) in
    omega (arith, here, nat_places f d xs g (from + 1) later)

nat_flat_map : {X Y : Type 0} (f : Y → ℕ) (g : X → List Y) (xs : List X)
    → nat_sum_over f (flat_map g xs) ≡ nat_sum_over (λ x. nat_sum_over f (g x)) xs
nat_flat_map f g [] = refl
nat_flat_map f g (x ∷ xs) = omega (arith, nat_sum_over-append f (g x) (flat_map g xs), nat_flat_map f g xs)

amount_size : (player : Player) (against : List ℕ) (bound : ℕ) (z : Leaf) (s : ℕ)
    → ((t : ℕ) → slice_index against t ≤ bound)
    → unsigned_abs (amount_at player against z s) ≤ unsigned_abs z.weight * bound
amount_size player against bound z s small = by_test (eqb (leaf_sequence player z) s)
  where
    by_test : (b : Bool)
        → unsigned_abs (cond b (z.weight *ℤ pos (slice_index against (leaf_sequence (opponent player) z))) (pos 0)) ≤ unsigned_abs z.weight * bound
    by_test true = omega (
      arith,
      unsigned_abs-mul z.weight (pos (slice_index against (leaf_sequence (opponent player) z))),
      mul-le-mul_left (unsigned_abs z.weight) (small (leaf_sequence (opponent player) z)),
    )
    by_test false = omega arith

-- what a leaf adds to a row has a size of at most the leaf's weight's size times the bound on the numbers
pub row_size : (form : SequenceForm) (one two : List ℕ) (bound : ℕ) (z : Leaf) (row : ℕ)
    → ((s : ℕ) → slice_index one s ≤ bound) → ((s : ℕ) → slice_index two s ≤ bound)
    → unsigned_abs (amount_in_row form one two z row) ≤ unsigned_abs z.weight * bound
row_size form one two bound z row small_one small_two = by_test (ltb row (sequence_count form.sets_one))
  where
    by_test : (b : Bool)
        → unsigned_abs (cond b (amount_at One two z row) (amount_at Two one z (row - sequence_count form.sets_one))) ≤ unsigned_abs z.weight * bound
    by_test true = amount_size One two bound z row small_two
    by_test false = amount_size Two one bound z (row - sequence_count form.sets_one) small_one

-- all jobs' amounts at a row have sizes of at most the mass times the bound on the numbers together
pub amounts_small : AmountsAreSmall
amounts_small form numbers_one numbers_two bound ranges partitions small_one small_two row =
    let no_leaves : LeafRange = record { first = 0; count = 0 } in
    let nowhere : Leaf = record { sequence_one = 0; sequence_two = 0; weight = pos 0 } in
    let by_range = nat_places (λ range. unsigned_abs (job_amount (leaf_amount form numbers_one numbers_two) range row)) no_leaves ranges
    (λ job. unsigned_abs (amounts (leaf_amount form numbers_one numbers_two) ranges job row)) 0
    (λ place. ap (λ job. unsigned_abs (amounts (leaf_amount form numbers_one numbers_two) ranges job row)) (zero-add place)) in
    let spread = nat_sum_over-mono (λ range. unsigned_abs (job_amount (leaf_amount form numbers_one numbers_two) range row))
    (λ range. nat_sum_over (λ leaf. unsigned_abs (leaf_amount form numbers_one numbers_two leaf row)) (leaves_of range)) ranges
    (λ k d below. unsigned_abs-sum_over (λ leaf. leaf_amount form numbers_one numbers_two leaf row) (leaves_of (get_or ranges k d))) in
    let together = nat_flat_map (λ leaf. unsigned_abs (leaf_amount form numbers_one numbers_two leaf row)) leaves_of ranges in
    let all = ap (nat_sum_over (λ leaf. unsigned_abs (leaf_amount form numbers_one numbers_two leaf row))) partitions in
    let by_leaf = nat_places (λ z. unsigned_abs (amount_in_row form numbers_one numbers_two z row)) nowhere form.leaves
    (λ leaf. unsigned_abs (leaf_amount form numbers_one numbers_two leaf row)) 0
    (λ place. ap (λ leaf. unsigned_abs (leaf_amount form numbers_one numbers_two leaf row)) (zero-add place)) in
    let each = nat_sum_over-mono (λ z. unsigned_abs (amount_in_row form numbers_one numbers_two z row)) (λ z. unsigned_abs z.weight * bound) form.leaves
    (λ k d below. row_size form numbers_one numbers_two bound (get_or form.leaves k d) row small_one small_two) in
    omega (arith, by_range, spread, together, all, by_leaf, each, nat_sum_over-factor bound (λ z. unsigned_abs z.weight) form.leaves)
