-- Sums over sequences of what is gathered at each sequence.
use Rattle.std.proofs.Common.{◌≡◌, ℕ, suc, ◌+◌, Bool, true, false, cond, eqb, ◌==◌, List, [], ◌∷◌, length, slice_index, filter, ℤ, pos, ◌+ℤ◌, ◌*ℤ◌, arith, ap}
use Rattle.std.proofs.Common.{sym, ◌∙◌, refl, ⊎_elim}
use Rattle.std.specs.List.{range_with_len}
use Rattle.std.proofs.lemmas.List.{get_or_past}
use Rattle.std.proofs.lemmas.Bool.{cases_lt}
use Rattle.def_sums.specs.Sum.{sum_over, nat_sum_over}
use Rattle.def_sums.proofs.RingLaws.{+ℤ-*ℤ, zero-*ℤ, *ℤ-zero, zero-+ℤ}
use Rattle.def_sums.proofs.SumLaws.{sum_over-ext, sum_over-exchange, sum_over-append}
use Rattle.def_sums.proofs.Ranges.{range-append, pick_in, pick_past}
use Rattle.def_plan.specs.Form.{InformationSet, placed_from, placed, sequences_of, sequence_count, sequences}

one_more : {A : Type 0} (val : A → ℤ) (c : ℤ) (z : A) (zs : List A) (b : Bool)
    → sum_over val (cond b (z ∷ zs) zs) *ℤ c ≡ cond b (val z *ℤ c) (pos 0) +ℤ sum_over val zs *ℤ c
one_more val c z zs true = +ℤ-*ℤ (val z) (sum_over val zs) c
one_more val c z zs false = sym (zero-+ℤ (sum_over val zs *ℤ c))

gathered : {A : Type 0} (val : A → ℤ) (p : A → Bool) (c : ℤ) (zs : List A)
    → sum_over val (filter p zs) *ℤ c ≡ sum_over (λ z. cond (p z) (val z *ℤ c) (pos 0)) zs
gathered val p c [] = zero-*ℤ c
gathered val p c (z ∷ zs) = one_more val c z (filter p zs) (p z) ∙ ap (λ y. cond (p z) (val z *ℤ c) (pos 0) +ℤ y) (gathered val p c zs)

picked : (v : ℤ) (k n : ℕ) (x : List ℕ) → length x ≡ n
    → sum_over (λ s. cond (eqb k s) (v *ℤ pos (slice_index x s)) (pos 0)) (range_with_len 0 n)
    ≡ v *ℤ pos (slice_index x k)
picked v k n x e =
    ⊎_elim (λ below. pick_in (λ s. v *ℤ pos (slice_index x s)) k 0 n (omega arith) (omega arith))
    (λ past. pick_past (λ s. v *ℤ pos (slice_index x s)) k 0 n (omega arith) ∙ sym (ap (λ m. v *ℤ pos m) (get_or_past x k 0 (omega arith)) ∙ *ℤ-zero v))
    (cases_lt k n)

-- what is gathered at each sequence, times the plan's number there, is the sum over all that was gathered
pub regroup : {A : Type 0} (zs : List A) (key : A → ℕ) (val : A → ℤ) (x : List ℕ) (n : ℕ) → length x ≡ n
    → sum_over (λ s. sum_over val (filter (λ z. key z == s) zs) *ℤ pos (slice_index x s)) (range_with_len 0 n)
    ≡ sum_over (λ z. val z *ℤ pos (slice_index x (key z))) zs
regroup zs key val x n e =
    sum_over-ext _ _ (range_with_len 0 n) (λ s. gathered val (λ z. key z == s) (pos (slice_index x s)) zs)
    ∙ sum_over-exchange (λ s z. cond (eqb (key z) s) (val z *ℤ pos (slice_index x s)) (pos 0)) (range_with_len 0 n) zs
    ∙ sum_over-ext _ _ zs (λ z. picked (val z) (key z) n x e)

-- all sequences are the empty one and those of each set
pub over_sets : (f : ℕ → ℤ) (first : ℕ) (hs : List InformationSet)
    → sum_over f (range_with_len first (nat_sum_over (λ h. h.actions) hs))
    ≡ sum_over (λ h. sum_over f (sequences_of h)) (placed_from first hs)
over_sets f first [] = refl
over_sets f first (h ∷ hs) =
    ap (sum_over f) (range-append first h.actions (nat_sum_over (λ h. h.actions) hs))
    ∙ sum_over-append f (range_with_len first h.actions) (range_with_len (first + h.actions) (nat_sum_over (λ h. h.actions) hs))
    ∙ ap (λ z. sum_over f (range_with_len first h.actions) +ℤ z) (over_sets f (first + h.actions) hs)

-- a sum over all sequences is that of the empty one, and set by set that of the set's sequences
pub over_sequences : (f : ℕ → ℤ) (sets : List InformationSet)
    → sum_over f (sequences sets) ≡ f 0 +ℤ sum_over (λ h. sum_over f (sequences_of h)) (placed sets)
over_sequences f sets =
    let one_first : sequence_count sets ≡ suc (nat_sum_over (λ h. h.actions) sets) = omega arith in
    ap (λ n. sum_over f (range_with_len 0 n)) one_first ∙ ap (λ z. f 0 +ℤ z) (over_sets f 1 sets)
