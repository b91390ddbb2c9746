-- The values of sets are within the leaf sums of the sequences from them on: no leaf sum counts twice.
use Rattle.std.proofs.Common.{◌≡◌, ℕ, zero, suc, ◌+◌, ◌≤◌, ◌<◌, Bool, true, false, cond, eqb, ltb, List, [], ◌∷◌, ◌++◌, zip, filter, slice_index, All, arith}
use Rattle.std.proofs.Common.{ap, sym, ◌∙◌, refl, subst, ⊎_elim, append_assoc, add-zero}
use Rattle.std.specs.Prelude.{ℤ, pos, ◌-ℤ◌, ◌*ℤ◌, unsigned_abs}
use Rattle.std.specs.List.{range_with_len, AllZip}
use Rattle.std.proofs.lemmas.Bool.Decides.{nat_tests}
use Rattle.std.proofs.lemmas.Bool.{cases_lt}
use Rattle.std.proofs.lemmas.List.Elements.{All-head, All-tail}
use Rattle.def_sums.specs.Sum.{sum_over, nat_sum_over}
use Rattle.def_sums.proofs.SumLaws.{nat_sum_over-mono, nat_sum_over-same, nat_sum_over-add, nat_sum_over-append}
use Rattle.def_sums.proofs.RingLaws.{unsigned_abs-+ℤ}
use Rattle.def_sums.proofs.Ranges.{All-range, at_most_sum, range-append}
use Rattle.def_plan.specs.Form.{InformationSet, PlacedSet, placed_from, placed, sequences_of, IsInOrder}
use Rattle.def_plan.specs.Payoff.{worth, values_after}
use Rattle.def_plan.proofs.Hanging.{hanging}
use Rattle.def_round.specs.Play.{units}
use Rattle.def_round.specs.Round.{set_value, values_from, round_values}
use Rattle.def_round.proofs.Values.{AreEarlier, worth_at_set, one_more_earlier, none_earlier}
use Rattle.def_round.specs.Sizes.{size_of_sums, IsWithin}
use Rattle.def_round.specs.SizeLaws.{ValuesAreWithinSums, WorthsAreWithinSums}
use Rattle.def_round.proofs.Averages.{value_within, growth_within, products_within}

-- the sizes of the values of the sets directly after s
after_at : ℕ → List (PlacedSet × ℤ) → ℕ
after_at s [] = 0
after_at s (p ∷ ps) = cond (eqb p.0.before s) (unsigned_abs p.1) 0 + after_at s ps

-- the sizes of the values of the sets after a sequence below b
pub after_below : ℕ → List (PlacedSet × ℤ) → ℕ
after_below b [] = 0
after_below b (p ∷ ps) = cond (ltb p.0.before b) (unsigned_abs p.1) 0 + after_below b ps

-- which is what hangs on them
pub hanging_below : (b : ℕ) (ps : List (PlacedSet × ℤ)) → hanging b ps ≡ after_below b ps
unfolding after_below
hanging_below b [] = refl
hanging_below b (p ∷ ps) = ap (λ n. cond (ltb p.0.before b) (unsigned_abs p.1) 0 + n) (hanging_below b ps)

one_further : (b : ℕ) (ps : List (PlacedSet × ℤ)) → after_below b ps + after_at b ps ≡ after_below (b + 1) ps
unfolding after_below after_at
one_further b [] = refl
one_further b (p ∷ ps) = omega (arith, one_further b ps, here p.0.before b (unsigned_abs p.1))
  where
    here : (x b v : ℕ) → cond (ltb x b) v 0 + cond (eqb x b) v 0 ≡ cond (ltb x (b + 1)) v 0
    here x b v = grind (arith, nat_tests)

further : (b n : ℕ) (ps : List (PlacedSet × ℤ))
    → after_below b ps + nat_sum_over (λ s. after_at s ps) (range_with_len b n) ≡ after_below (b + n) ps
further b zero ps = omega (arith, ap (λ k. after_below k ps) (add-zero b))
further b (suc n) ps =
    let next : b + 1 + n ≡ b + suc n = omega arith in
    omega (arith, one_further b ps, further (b + 1) n ps, ap (λ k. after_below k ps) next)

none_below_zero : (ps : List (PlacedSet × ℤ)) → after_below 0 ps ≡ 0
unfolding after_below
none_below_zero [] = refl
none_below_zero (p ∷ ps) = omega (arith, none_below_zero ps, here p.0.before (unsigned_abs p.1))
  where
    here : (x v : ℕ) → cond (ltb x 0) v 0 ≡ 0
    here x v = grind (arith, nat_tests)

values_after_size : (s : ℕ) (ps : List (PlacedSet × ℤ))
    → unsigned_abs (sum_over (λ p. p.1) (filter (λ p. eqb p.0.before s) ps)) ≤ after_at s ps
unfolding after_at
values_after_size s [] = omega arith
values_after_size s (p ∷ ps) = by_test (eqb p.0.before s) (values_after_size s ps)
  where
    by_test : (b : Bool) → unsigned_abs (sum_over (λ p. p.1) (filter (λ p. eqb p.0.before s) ps)) ≤ after_at s ps
        → unsigned_abs (sum_over (λ p. p.1) (cond b (p ∷ filter (λ p. eqb p.0.before s) ps) (filter (λ p. eqb p.0.before s) ps))) ≤ cond b (unsigned_abs p.1) 0
        + after_at s ps
    by_test true rest = omega (arith, rest, unsigned_abs-+ℤ p.1 (sum_over (λ p. p.1) (filter (λ p. eqb p.0.before s) ps)))
    by_test false rest = omega (arith, rest)

worth_size : (sums : ℕ → ℤ) (hs : List PlacedSet) (values : List ℤ) (s : ℕ)
    → unsigned_abs (worth sums hs values s) ≤ unsigned_abs (sums s) + after_at s (zip hs values)
worth_size sums hs values s = omega (arith, unsigned_abs-+ℤ (sums s) (values_after hs values s), values_after_size s (zip hs values))

-- the worths at a set, together
worths_size : (sums : ℕ → ℤ) (hs : List PlacedSet) (values : List ℤ) (first n : ℕ)
    → nat_sum_over (λ s. unsigned_abs (worth sums hs values s)) (range_with_len first n) + after_below first (zip hs values)
    ≤ nat_sum_over (λ s. unsigned_abs (sums s)) (range_with_len first n) + after_below (first + n) (zip hs values)
worths_size sums hs values first n =
    let each = nat_sum_over-mono (λ s. unsigned_abs (worth sums hs values s)) (λ s. unsigned_abs (sums s) + after_at s (zip hs values)) (range_with_len first n)
    (λ k d low. worth_size sums hs values _) in
    omega (
      arith,
      each,
      nat_sum_over-add (λ s. unsigned_abs (sums s)) (λ s. after_at s (zip hs values)) (range_with_len first n),
      further first n (zip hs values),
    )

-- the sets from one on that come after earlier sequences
pub tree_size : (sums : ℕ → ℤ) (play : List ℕ) (first : ℕ) (sets : List InformationSet)
    → All (λ h. nat_sum_over (λ s. slice_index play s) (sequences_of h) ≡ units) (placed_from first sets)
    → after_below first (zip (placed_from first sets) (values_from sums play (placed_from first sets)))
    ≤ nat_sum_over (λ s. unsigned_abs (sums s)) (range_with_len first (nat_sum_over (λ h. h.actions) sets))
unfolding after_below
tree_size sums play first [] all = omega arith
tree_size sums play first (set ∷ sets) all =
    let h : PlacedSet = record { first = first; before = set.before; actions = set.actions } in
    let rest : List PlacedSet = placed_from (first + set.actions) sets in
    let values : List ℤ = values_from sums play rest in
    let value : ℤ = set_value play (worth sums rest values) h in
    let count : ℕ = nat_sum_over (λ h. h.actions) sets in
    let whole : nat_sum_over (λ s. slice_index play s) (sequences_of h) ≡ units = All-head
    (λ h. nat_sum_over (λ s. slice_index play s) (sequences_of h) ≡ units) h rest all in
    let later = tree_size sums play (first + set.actions) sets (All-tail (λ h. nat_sum_over (λ s. slice_index play s) (sequences_of h) ≡ units) h rest all) in
    let parts = ap (nat_sum_over (λ s. unsigned_abs (sums s))) (range-append first set.actions count)
    ∙ nat_sum_over-append (λ s. unsigned_abs (sums s)) (range_with_len first set.actions) (range_with_len (first + set.actions) count) in
    omega (
      arith,
      at_most (ltb set.before first) (unsigned_abs value),
      value_within play (worth sums rest values) h whole,
      worths_size sums rest values first set.actions,
      later,
      parts,
    )
  where
    at_most : (b : Bool) (v : ℕ) → cond b v 0 ≤ v
    at_most true v = omega arith
    at_most false v = omega arith

-- ---- each set
within_from : (sums : ℕ → ℤ) (play : List ℕ) (bound : ℕ) (front : List PlacedSet) (front_values : List ℤ) (first : ℕ)
    (sets : List InformationSet) (all_sets : List InformationSet) (all_values : List ℤ)
    → placed all_sets ≡ front ++ placed_from first sets
    → all_values ≡ front_values ++ values_from sums play (placed_from first sets)
    → AreEarlier front front_values first → All IsInOrder (placed_from first sets)
    → All (λ h. nat_sum_over (λ s. slice_index play s) (sequences_of h) ≡ units) (placed_from first sets)
    → nat_sum_over (λ s. unsigned_abs (sums s)) (range_with_len first (nat_sum_over (λ h. h.actions) sets)) ≤ bound
    → AllZip (IsWithin bound sums play all_sets all_values) (placed_from first sets) (values_from sums play (placed_from first sets))
within_from sums play bound front front_values first [] all_sets all_values same_sets same_values earlier order whole le = tt
within_from sums play bound front front_values first (set ∷ sets) all_sets all_values same_sets same_values earlier order whole le =
    let h : PlacedSet = record { first = first; before = set.before; actions = set.actions } in
    let rest : List PlacedSet = placed_from (first + set.actions) sets in
    let values : List ℤ = values_from sums play rest in
    let value : ℤ = set_value play (worth sums rest values) h in
    let count : ℕ = nat_sum_over (λ h. h.actions) sets in
    let before : set.before < first = (All-head IsInOrder h rest order).1 in
    let full : nat_sum_over (λ s. slice_index play s) (sequences_of h) ≡ units = All-head (λ h. nat_sum_over (λ s. slice_index play s) (sequences_of h) ≡ units)
    h rest whole in
    let whole' = All-tail (λ h. nat_sum_over (λ s. slice_index play s) (sequences_of h) ≡ units) h rest whole in
    let parts = ap (nat_sum_over (λ s. unsigned_abs (sums s))) (range-append first set.actions count)
    ∙ nat_sum_over-append (λ s. unsigned_abs (sums s)) (range_with_len first set.actions) (range_with_len (first + set.actions) count) in
    let worths : nat_sum_over (λ s. unsigned_abs (worth sums rest values s)) (sequences_of h) ≤ bound =
    omega (arith, worths_size sums rest values first set.actions, tree_size sums play (first + set.actions) sets whole', parts, le) in
    let at_set : (s : ℕ) → first ≤ s → worth sums (placed all_sets) all_values s ≡ worth sums rest values s =
    (λ (s : ℕ) (low : first ≤ s). ap (λ hs. worth sums hs all_values s) same_sets ∙ ap (λ vs. worth sums (front ++ h ∷ rest) vs s) same_values
    ∙ worth_at_set sums front front_values h rest value values earlier before s low) in
    let sizes_agree : nat_sum_over (λ s. unsigned_abs (worth sums (placed all_sets) all_values s)) (sequences_of h)
    ≡ nat_sum_over (λ s. unsigned_abs (worth sums rest values s)) (sequences_of h) =
    nat_sum_over-same (λ s. unsigned_abs (worth sums (placed all_sets) all_values s)) (λ s. unsigned_abs (worth sums rest values s)) (sequences_of h)
    (All-range (λ s. unsigned_abs (worth sums (placed all_sets) all_values s) ≡ unsigned_abs (worth sums rest values s)) first set.actions
    (λ s low high. ap unsigned_abs (at_set s low))) in
    let products_agree : nat_sum_over (λ s. unsigned_abs (pos (slice_index play s) *ℤ worth sums (placed all_sets) all_values s)) (sequences_of h)
    ≡ nat_sum_over (λ s. unsigned_abs (pos (slice_index play s) *ℤ worth sums rest values s)) (sequences_of h) =
    nat_sum_over-same (λ s. unsigned_abs (pos (slice_index play s) *ℤ worth sums (placed all_sets) all_values s))
    (λ s. unsigned_abs (pos (slice_index play s) *ℤ worth sums rest values s)) (sequences_of h)
    (All-range (λ s. unsigned_abs (pos (slice_index play s) *ℤ worth sums (placed all_sets) all_values s)
    ≡ unsigned_abs (pos (slice_index play s) *ℤ worth sums rest values s)) first set.actions
    (λ s low high. ap (λ w. unsigned_abs (pos (slice_index play s) *ℤ w)) (at_set s low))) in
    let here : IsWithin bound sums play all_sets all_values h value = record {
      its_value = omega (arith, value_within play (worth sums rest values) h full, worths);
      worths = omega (arith, sizes_agree, worths);
      each_growth = All-range (λ s. unsigned_abs (worth sums (placed all_sets) all_values s -ℤ value) ≤ bound) first set.actions
          (λ s low high. let g = growth_within play (worth sums rest values) h full s low high in
          let e : unsigned_abs (worth sums (placed all_sets) all_values s -ℤ value)
          ≡ unsigned_abs (worth sums rest values s -ℤ value) = ap (λ w. unsigned_abs (w -ℤ value)) (at_set s low) in
          omega (arith, g, e, worths));
      products = omega (arith, products_agree, products_within play (worth sums rest values) h bound full worths);
    } in (
      here,
      within_from sums play bound (front ++ h ∷ []) (front_values ++ value ∷ []) (first + set.actions) sets all_sets all_values
          (same_sets ∙ sym (append_assoc front (h ∷ []) rest)) (same_values ∙ sym (append_assoc front_values (value ∷ []) values))
          (one_more_earlier front front_values h value earlier before) (All-tail IsInOrder h rest order) whole' (omega (arith, parts, le)),
    )

all_sums : (sums : ℕ → ℤ) (sets : List InformationSet)
    → size_of_sums sums sets
    ≡ unsigned_abs (sums 0) + nat_sum_over (λ s. unsigned_abs (sums s)) (range_with_len 1 (nat_sum_over (λ h. h.actions) sets))
all_sums sums sets = ap (nat_sum_over (λ s. unsigned_abs (sums s))) (range-append 0 1 (nat_sum_over (λ h. h.actions) sets))

-- a set's value, worths and growths in a round are at most the sizes of all leaf sums together
pub values_within : ValuesAreWithinSums
values_within sums play sets order whole =
    within_from sums play (size_of_sums sums sets) [] [] 1 sets sets (round_values sums play sets) refl refl (none_earlier 1) order whole
    (omega (arith, all_sums sums sets))

-- every sequence but the empty one ends at a set
at_some_set : (P : ℕ → Type 0) (R : PlacedSet → ℤ → Type 0)
    → ((h : PlacedSet) (v : ℤ) → R h v → (s : ℕ) → h.first ≤ s → s < h.first + h.actions → P s)
    → (first : ℕ) (sets : List InformationSet) (values : List ℤ) → AllZip R (placed_from first sets) values → (s : ℕ)
    → first ≤ s → s < first + nat_sum_over (λ h. h.actions) sets → P s
at_some_set P R gives first [] values all s low high = absurd (omega arith)
at_some_set P R gives first (set ∷ sets) [] all s low high = elim all [ ]
at_some_set P R gives first (set ∷ sets) (v ∷ vs) all s low high =
    let h : PlacedSet = record { first = first; before = set.before; actions = set.actions } in
    ⊎_elim (λ here. gives h v all.0 s low here) (λ past. at_some_set P R gives (first + set.actions) sets vs all.1 s past (omega arith))
    (cases_lt s (first + set.actions))

-- what a sequence is worth in a round is at most the sizes of all leaf sums together
pub worths_within : WorthsAreWithinSums
worths_within sums play sets order whole s low =
    ⊎_elim at_root at_set (cases_lt s 1)
  where
    bound : ℕ
    bound = size_of_sums sums sets

    at_root : s < 1 → unsigned_abs (worth sums (placed sets) (round_values sums play sets) s) ≤ size_of_sums sums sets
    at_root less =
        let zero' : s ≡ 0 = omega arith in
        let ps : List (PlacedSet × ℤ) = zip (placed sets) (round_values sums play sets) in
        subst (λ k. unsigned_abs (worth sums (placed sets) (round_values sums play sets) k) ≤ size_of_sums sums sets) (sym zero')
        (omega (
          arith,
          worth_size sums (placed sets) (round_values sums play sets) 0,
          one_further 0 ps,
          none_below_zero ps,
          tree_size sums play 1 sets whole,
          all_sums sums sets,
        ))

    at_set : 1 ≤ s → unsigned_abs (worth sums (placed sets) (round_values sums play sets) s) ≤ size_of_sums sums sets
    at_set some =
        at_some_set (λ k. unsigned_abs (worth sums (placed sets) (round_values sums play sets) k) ≤ size_of_sums sums sets)
        (IsWithin (size_of_sums sums sets) sums play sets (round_values sums play sets))
        (λ h v is k below above. let one = at_most_sum (λ s. unsigned_abs (worth sums (placed sets) (round_values sums play sets) s)) h.first h.actions k below
        above in omega (arith, one, is.worths))
        1 sets (round_values sums play sets) (values_within sums play sets order whole) s some low
