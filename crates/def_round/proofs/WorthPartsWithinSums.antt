-- A leaf sum and the values directly after its sequence stay within all leaf sums.
use Rattle.std.proofs.Common.{◌≡◌, ℕ, ◌+◌, ◌≤◌, ◌<◌, eqb, List, [], ◌∷◌, zip, filter, slice_index, All, arith, ap, ◌∙◌, ⊎_elim}
use Rattle.std.specs.Prelude.{ℤ, unsigned_abs}
use Rattle.std.proofs.lemmas.Bool.{cases_lt}
use Rattle.std.proofs.lemmas.List.Elements.{All-head, All-tail}
use Rattle.def_sums.specs.Sum.{nat_sum_over}
use Rattle.def_sums.proofs.Ranges.{at_most_sum}
use Rattle.def_plan.specs.Form.{InformationSet, PlacedSet, placed_from, placed, sequences_of, IsInOrder}
use Rattle.def_plan.specs.Payoff.{worth}
use Rattle.def_plan.proofs.Hanging.{hanging, hanging_size, kept, after-hanging, not_here, from, from-cons, all_sums}
use Rattle.def_round.specs.Play.{units}
use Rattle.def_round.specs.Round.{set_value, values_from, round_values}
use Rattle.def_round.specs.SizeLaws.{WorthPartsAreWithinSums}
use Rattle.def_round.proofs.Trees.{hanging_below, tree_size}

abbrev PlaysAllUnits : List ℕ → PlacedSet → Type 0
PlaysAllUnits play h = nat_sum_over (λ s. slice_index play s) (sequences_of h) ≡ units

hangs : (sums : ℕ → ℤ) (play : List ℕ) (first : ℕ) (hs : List InformationSet)
    → All (PlaysAllUnits play) (placed_from first hs)
    → hanging first (zip (placed_from first hs) (values_from sums play (placed_from first hs))) ≤ from sums first hs
hangs sums play first hs whole =
    omega (arith, hanging_below first (zip (placed_from first hs) (values_from sums play (placed_from first hs))), tree_size sums play first hs whole)

parts_at : (sums : ℕ → ℤ) (play : List ℕ) (first : ℕ) (hs : List InformationSet) (s : ℕ)
    → All IsInOrder (placed_from first hs) → All (PlaysAllUnits play) (placed_from first hs)
    → first ≤ s → s < first + nat_sum_over (λ h. h.actions) hs
    → unsigned_abs (sums s) + hanging_size s (zip (placed_from first hs) (values_from sums play (placed_from first hs))) ≤ from sums first hs
parts_at sums play first [] s order whole low high = absurd (omega arith)
parts_at sums play first (h ∷ hs) s order whole low high =
    let here : PlacedSet = record { first = first; before = h.before; actions = h.actions } in
    let rest : List PlacedSet = placed_from (first + h.actions) hs in
    let vs : List ℤ = values_from sums play rest in
    let value : ℤ = set_value play (worth sums rest vs) here in
    let before : h.before < first = (All-head IsInOrder here rest order).1 in
    let later = All-tail IsInOrder here rest order in
    let whole' = All-tail (PlaysAllUnits play) here rest whole in
    let skips : hanging_size s (zip (here ∷ rest) (value ∷ vs)) ≡ hanging_size s (zip rest vs) =
    kept (eqb h.before s) (here, value) (filter (λ p. eqb p.0.before s) (zip rest vs))
    ∙ not_here h.before s (unsigned_abs value) (hanging_size s (zip rest vs)) (omega arith)
    in
    ⊎_elim
    (λ inside.
    omega (
      arith,
      skips,
      from-cons sums first h hs,
      hangs sums play (first + h.actions) hs whole',
      after-hanging s first (first + h.actions) (zip rest vs) low inside,
      at_most_sum (λ t. unsigned_abs (sums t)) first h.actions s low inside,
    ))
    (λ beyond. omega (arith, skips, from-cons sums first h hs, parts_at sums play (first + h.actions) hs s later whole' beyond (omega arith)))
    (cases_lt s (first + h.actions))

-- the sizes of a leaf sum and of the values that join it in a worth are together at most all leaf sums'
pub worth_parts_are_within_sums : WorthPartsAreWithinSums
worth_parts_are_within_sums sums play sets order whole s low =
    ⊎_elim
    (λ empty.
    let none : s ≡ 0 = omega arith in
    let same : unsigned_abs (sums s) ≡ unsigned_abs (sums 0) = ap (λ t. unsigned_abs (sums t)) none in
    omega (
      arith,
      same,
      all_sums sums sets,
      hangs sums play 1 sets whole,
      after-hanging s 0 1 (zip (placed sets) (round_values sums play sets)) (omega arith) empty,
    ))
    (λ some. omega (arith, all_sums sums sets, parts_at sums play 1 sets s order whole some low))
    (cases_lt s 1)
