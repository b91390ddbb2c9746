-- Rows, and what they are to the player.
use Rattle.std.proofs.Common.{◌≡◌, ℕ, zero, suc, ◌+◌, ◌≤◌, List, [], ◌∷◌, length, map, ℤ, pos, negsuc, unsigned_abs, arith, refl, sym, ap, ◌∙◌}
use Rattle.std.specs.Prelude.{neg_ℤ}
use Rattle.std.specs.List.{range_with_len}
use Rattle.std.proofs.lemmas.List.{get_or-map, get_or_past, length-map}
use Rattle.def_sums.specs.Sum.{nat_sum_over}
use Rattle.def_sums.proofs.Ranges.{nat_sum_over-read}
use Rattle.def_tree.specs.declared.Player.{Player}
use Rattle.def_tree.specs.declared.Player.TheVariants.{One, Two}
use Rattle.def_plan.specs.Form.{InformationSet, sequence_count}
use Rattle.def_round.specs.Sizes.{size_of_sums}
use Rattle.xg_closer.specs.Rows.{own_amount}
use Rattle.def_plan.specs.FormRows.{amount_of}

-- no row is larger than all together
pub row_within : (rows : List ℤ) (s : ℕ) → unsigned_abs (amount_of rows s) ≤ nat_sum_over unsigned_abs rows
row_within [] s = omega arith
row_within (row ∷ rows) zero = omega arith
row_within (row ∷ rows) (suc s) = omega (arith, row_within rows s)

size_of_own : (player : Player) (rows : List ℤ) (s : ℕ)
    → unsigned_abs (own_amount player rows s) ≡ unsigned_abs (amount_of rows s)
size_of_own One rows s = refl
size_of_own Two rows s = size_of_negative (amount_of rows s)
  where
    size_of_negative : (a : ℤ) → unsigned_abs (neg_ℤ a) ≡ unsigned_abs a
    size_of_negative (pos zero) = refl
    size_of_negative (pos (suc n)) = refl
    size_of_negative (negsuc n) = refl

-- there is nothing beyond the rows
pub own_amount_beyond : (player : Player) (rows : List ℤ) (s : ℕ) → length rows ≤ s → own_amount player rows s ≡ pos 0
own_amount_beyond One rows s beyond = get_or_past rows s (pos 0) beyond
own_amount_beyond Two rows s beyond = ap neg_ℤ (get_or_past rows s (pos 0) beyond)

sizes_listed : (rows : List ℤ) → nat_sum_over (λ n. n) (map unsigned_abs rows) ≡ nat_sum_over unsigned_abs rows
sizes_listed [] = refl
sizes_listed (row ∷ rows) = ap (λ n. unsigned_abs row + n) (sizes_listed rows)

-- the own sums together are the rows together
pub own_sizes : (player : Player) (rows : List ℤ) (sets : List InformationSet) → length rows ≡ sequence_count sets
    → size_of_sums (own_amount player rows) sets ≡ nat_sum_over unsigned_abs rows
own_sizes player rows sets count =
    let sizes : List ℕ = map unsigned_abs rows in
    let many : sequence_count sets ≡ length sizes = sym count ∙ sym (length-map rows unsigned_abs) in
    ap (λ n. nat_sum_over (λ s. unsigned_abs (own_amount player rows s)) (range_with_len 0 n)) many
    ∙ nat_sum_over-read (λ s. unsigned_abs (own_amount player rows s)) 0 sizes
    (λ i below. let same : 0 + i ≡ i = omega arith in ap (λ s. unsigned_abs (own_amount player rows s)) same ∙ size_of_own player rows i
    ∙ sym (get_or-map unsigned_abs rows i (pos 0) 0 (omega (arith, length-map rows unsigned_abs))))
    ∙ sizes_listed rows
