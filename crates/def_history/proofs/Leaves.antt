-- The exchange of the sum over jobs and the sum over their leaves.
use Rattle.std.proofs.Common.{◌≡◌, ℕ, suc, ◌+◌, ◌<◌, List, [], ◌∷◌, length, get_or, refl, sym, ap, ◌∙◌, arith, add-zero, zero-add}
use Rattle.std.specs.List.{range_with_len}
use Rattle.std.specs.Prelude.{ℤ, ◌+ℤ◌, flat_map}
use Rattle.def_sums.specs.Sum.{sum_over}
use Rattle.def_sums.proofs.SumLaws.{sum_over-append}
use Rattle.def_history.specs.Ranges.{leaves_of}
use Rattle.def_history.specs.Leaves.{job_amount, amounts}
use Rattle.def_history.specs.Laws.{JobsAddUpToLeaves, RowsEndAsLeafSums}
use Rattle.def_history.proofs.Ends.{ends_with_plain_sums}

sum_over-flat_map : {X Y : Type 0} (f : Y → ℤ) (g : X → List Y) (xs : List X)
    → sum_over f (flat_map g xs) ≡ sum_over (λ x. sum_over f (g x)) xs
sum_over-flat_map f g [] = refl
sum_over-flat_map f g (x ∷ xs) = sum_over-append f (g x) (flat_map g xs) ∙ ap (λ s. sum_over f (g x) +ℤ s) (sum_over-flat_map f g xs)

-- a sum over the places of a list is the sum over its elements
pub sum_over-places : {X : Type 0} (f : X → ℤ) (d : X) (xs : List X) (g : ℕ → ℤ) (from : ℕ)
    → ((place : ℕ) → place < length xs → g (from + place) ≡ f (get_or xs place d))
    → sum_over g (range_with_len from (length xs)) ≡ sum_over f xs
sum_over-places f d [] g from same = refl
sum_over-places f d (x ∷ xs) g from same =
    let here : g from ≡ f x = ap g (sym (add-zero from)) ∙ same 0 (omega arith) in
    let later : (place : ℕ) → place < length xs → g (from + 1 + place) ≡ f
    (get_or xs place d) = (λ (place : ℕ) (below : place < length xs). let shift : from + 1 + place ≡ from + suc place = omega arith in ap g shift
    ∙ same (suc place) (omega arith)) in
    ap (λ s. s +ℤ sum_over g (range_with_len (from + 1) (length xs))) here ∙ ap (λ s. f x +ℤ s) (sum_over-places f d xs g (from + 1) later)

-- jobs that have every leaf once add to a row what all leaves add to it
pub jobs_add_up : JobsAddUpToLeaves
jobs_add_up leaf_amount ranges leaves partitions row =
    sum_over-places (λ range. job_amount leaf_amount range row) (record { first = 0; count = 0 }) ranges (λ job. amounts leaf_amount ranges job row) 0
    (λ place below. ap (λ job. amounts leaf_amount ranges job row) (zero-add place))
    ∙ sym (sum_over-flat_map (λ leaf. leaf_amount leaf row) leaves_of ranges) ∙ ap (sum_over (λ leaf. leaf_amount leaf row)) partitions

-- at the end the history of a row's stripe leaves the plain sum over all leaves at that row
pub ends_with_leaf_sums : RowsEndAsLeafSums
ends_with_leaf_sums leaf_amount ranges leaves partitions state reached end some row =
    ends_with_plain_sums (length ranges) state reached end some (amounts leaf_amount ranges) row ∙ jobs_add_up leaf_amount ranges leaves partitions row
