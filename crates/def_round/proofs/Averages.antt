-- An average by whole units lies between the least and the greatest number, and so does its floor.
use Rattle.std.proofs.Common.{◌≡◌, ℕ, zero, suc, ◌+◌, ◌*◌, ◌≤◌, ◌<◌, ◌≢◌, List, slice_index, All, arith, ap, ◌∙◌, subst, ⊎_elim}
use Rattle.std.specs.Prelude.{ℤ, pos, ◌+ℤ◌, ◌-ℤ◌, ◌*ℤ◌, ◌≤ℤ◌, neg_ℤ, unsigned_abs}
use Rattle.std.specs.List.{range_with_len}
use Rattle.std.proofs.lemmas.Int.{ints, by_lt_z, unsigned_abs-mul}
use Rattle.std.proofs.lemmas.Bool.{cases_eq}
use Rattle.def_sums.specs.Sum.{sum_over, nat_sum_over}
use Rattle.def_sums.specs.Floor.{floor_div}
use Rattle.def_sums.proofs.RingLaws.{*ℤ-mono, *ℤ-mono_right, *ℤ_comm, +ℤ-*ℤ, one-*ℤ}
use Rattle.std.proofs.Math.Nat.{mul-le-mul_left}
use Rattle.def_sums.proofs.SumLaws.{sum_over-mono, sum_over-factor, sum_over-same, sum_over-pos, nat_sum_over-mono, nat_sum_over-factor}
use Rattle.def_sums.proofs.FloorLaws.{floor_div-is_floor}
use Rattle.def_sums.proofs.Ranges.{All-range, at_most_sum}
use Rattle.def_plan.specs.Form.{PlacedSet, sequences_of}
use Rattle.def_round.specs.Play.{units}
use Rattle.def_round.specs.Round.{set_value}
use Rattle.def_round.specs.Laws.{SetValuesAreAverages}

-- a quotient from below and from above
floor_at_most : (n : ℤ) (d : ℕ) (high : ℤ) → 1 ≤ d → n ≤ℤ (high *ℤ pos d) → floor_div n d ≤ℤ high
floor_at_most n d high some le =
    let f = floor_div-is_floor n d some in
    by_lt_z high (floor_div n d)
    (λ less. let more = *ℤ-mono_right d (high +ℤ pos 1) (floor_div n d) (omega (arith, ints)) in
    let spread : (high +ℤ pos 1) *ℤ pos d ≡ high *ℤ pos d +ℤ pos d = +ℤ-*ℤ high (pos 1) (pos d) ∙ ap (λ z. high *ℤ pos d +ℤ z) (one-*ℤ (pos d)) in
    omega (arith, ints, f.at_most, more, spread))
    (λ le. le)

floor_at_least : (n : ℤ) (d : ℕ) (low : ℤ) → 1 ≤ d → (low *ℤ pos d) ≤ℤ n → low ≤ℤ floor_div n d
floor_at_least n d low some le =
    let f = floor_div-is_floor n d some in
    by_lt_z (floor_div n d) low
    (λ less. let more = *ℤ-mono_right d (floor_div n d +ℤ pos 1) low (omega (arith, ints)) in omega (arith, ints, f.above, more))
    (λ le. le)

-- the sum of what each unit carries, where all carry the same
pub same_for_all : (play : ℕ → ℕ) (c : ℤ) (xs : List ℕ)
    → sum_over (λ s. pos (play s) *ℤ c) xs ≡ c *ℤ pos (nat_sum_over play xs)
same_for_all play c xs =
    sum_over-same (λ s. pos (play s) *ℤ c) (λ s. c *ℤ pos (play s)) xs (λ k d low. *ℤ_comm _ c)
    ∙ sum_over-factor c (λ s. pos (play s)) xs ∙ ap (λ z. c *ℤ z) (sum_over-pos play xs)

pub value_at_most : (play : List ℕ) (w : ℕ → ℤ) (h : PlacedSet) (high : ℤ)
    → nat_sum_over (λ s. slice_index play s) (sequences_of h) ≡ units → All (λ s. w s ≤ℤ high) (sequences_of h)
    → set_value play w h ≤ℤ high
value_at_most play w h high all le =
    let sum = sum_over-mono (λ s. pos (slice_index play s) *ℤ w s) (λ s. pos (slice_index play s) *ℤ high) (sequences_of h)
    (λ k d low. *ℤ-mono (slice_index play _) (w _) high (le k d low)) in
    let whole : sum_over (λ s. pos (slice_index play s) *ℤ high) (sequences_of h) ≡ high
    *ℤ pos units = same_for_all (λ s. slice_index play s) high (sequences_of h) ∙ ap (λ n. high *ℤ pos n) all in
    floor_at_most (sum_over (λ s. pos (slice_index play s) *ℤ w s) (sequences_of h)) units high (omega arith)
    (subst (λ z. sum_over (λ s. pos (slice_index play s) *ℤ w s) (sequences_of h) ≤ℤ z) whole sum)

pub value_at_least : (play : List ℕ) (w : ℕ → ℤ) (h : PlacedSet) (low : ℤ)
    → nat_sum_over (λ s. slice_index play s) (sequences_of h) ≡ units → All (λ s. low ≤ℤ w s) (sequences_of h)
    → low ≤ℤ set_value play w h
value_at_least play w h low all le =
    let sum = sum_over-mono (λ s. pos (slice_index play s) *ℤ low) (λ s. pos (slice_index play s) *ℤ w s) (sequences_of h)
    (λ k d below. *ℤ-mono (slice_index play _) low (w _) (le k d below)) in
    let whole : sum_over (λ s. pos (slice_index play s) *ℤ low) (sequences_of h) ≡ low
    *ℤ pos units = same_for_all (λ s. slice_index play s) low (sequences_of h) ∙ ap (λ n. low *ℤ pos n) all in
    floor_at_least (sum_over (λ s. pos (slice_index play s) *ℤ w s) (sequences_of h)) units low (omega arith)
    (subst (λ z. z ≤ℤ sum_over (λ s. pos (slice_index play s) *ℤ w s) (sequences_of h)) whole sum)

-- ---- at a set whose worths together are within a bound
two_in_range : (f : ℕ → ℕ) (a n s t : ℕ) → a ≤ s → s < a + n → a ≤ t → t < a + n → s ≢ t
    → f s + f t ≤ nat_sum_over f (range_with_len a n)
two_in_range f a zero s t low_s high_s low_t high_t apart = absurd (omega arith)
two_in_range f a (suc n) s t low_s high_s low_t high_t apart =
    ⊎_elim
    (λ (same : s ≡ a). let e : f s ≡ f a = ap f same in let later = at_most_sum f (a + 1) n t (omega arith) (omega arith) in omega arith)
    (λ (other : s ≢ a). ⊎_elim
    (λ (same : t ≡ a). let e : f t ≡ f a = ap f same in let later = at_most_sum f (a + 1) n s (omega arith) (omega arith) in omega arith)
    (λ (other' : t ≢ a). let later = two_in_range f (a + 1) n s t (omega arith) (omega arith) (omega arith) (omega arith) apart in omega arith)
    (cases_eq t a))
    (cases_eq s a)

-- where a set gives out all units, its value is at most the sizes of its worths together
pub value_within : (play : List ℕ) (w : ℕ → ℤ) (h : PlacedSet)
    → nat_sum_over (λ s. slice_index play s) (sequences_of h) ≡ units
    → unsigned_abs (set_value play w h) ≤ nat_sum_over (λ s. unsigned_abs (w s)) (sequences_of h)
value_within play w h all =
    let bound : ℕ = nat_sum_over (λ s. unsigned_abs (w s)) (sequences_of h) in
    let high = value_at_most play w h (pos bound) all (All-range (λ s. w s ≤ℤ pos bound) h.first h.actions
    (λ s low high. let e = at_most_sum (λ s. unsigned_abs (w s)) h.first h.actions s low high in omega (arith, ints))) in
    let low = value_at_least play w h (neg_ℤ (pos bound)) all (All-range (λ s. neg_ℤ (pos bound) ≤ℤ w s) h.first h.actions
    (λ s low high. let e = at_most_sum (λ s. unsigned_abs (w s)) h.first h.actions s low high in omega (arith, ints))) in
    omega (arith, ints)

-- two worths of a set are no further from each other than the bound
apart_within : (w : ℕ → ℤ) (h : PlacedSet) (s t : ℕ) → h.first ≤ s → s < h.first + h.actions → h.first ≤ t
    → t < h.first + h.actions
    → unsigned_abs (w s -ℤ w t) ≤ nat_sum_over (λ s. unsigned_abs (w s)) (sequences_of h)
apart_within w h s t low_s high_s low_t high_t =
    ⊎_elim
    (λ (same : s ≡ t). let e : w s ≡ w t = ap w same in omega (arith, ints))
    (λ (other : s ≢ t). let two = two_in_range (λ s. unsigned_abs (w s)) h.first h.actions s t low_s high_s low_t high_t other in omega (arith, ints))
    (cases_eq s t)

-- and none of its worths is further than that from its value
pub growth_within : (play : List ℕ) (w : ℕ → ℤ) (h : PlacedSet)
    → nat_sum_over (λ s. slice_index play s) (sequences_of h) ≡ units → (s : ℕ) → h.first ≤ s → s < h.first + h.actions
    → unsigned_abs (w s -ℤ set_value play w h) ≤ nat_sum_over (λ s. unsigned_abs (w s)) (sequences_of h)
growth_within play w h all s low_s high_s =
    let bound : ℕ = nat_sum_over (λ s. unsigned_abs (w s)) (sequences_of h) in
    let high = value_at_most play w h (w s +ℤ pos bound) all (All-range (λ t. w t ≤ℤ (w s +ℤ pos bound)) h.first h.actions
    (λ t low high. let e = apart_within w h s t low_s high_s low high in omega (arith, ints))) in
    let low = value_at_least play w h (w s -ℤ pos bound) all (All-range (λ t. (w s -ℤ pos bound) ≤ℤ w t) h.first h.actions
    (λ t low high. let e = apart_within w h s t low_s high_s low high in omega (arith, ints))) in
    omega (arith, ints)

-- products of play and worth
pub products_within : (play : List ℕ) (w : ℕ → ℤ) (h : PlacedSet) (bound : ℕ)
    → nat_sum_over (λ s. slice_index play s) (sequences_of h) ≡ units
    → nat_sum_over (λ s. unsigned_abs (w s)) (sequences_of h) ≤ bound
    → nat_sum_over (λ s. unsigned_abs (pos (slice_index play s) *ℤ w s)) (sequences_of h) ≤ units * bound
products_within play w h bound all le =
    let each = nat_sum_over-mono (λ s. unsigned_abs (pos (slice_index play s) *ℤ w s)) (λ s. slice_index play s * bound) (sequences_of h)
    (All-range (λ s. unsigned_abs (pos (slice_index play s) *ℤ w s) ≤ slice_index play s * bound) h.first h.actions
    (λ s low high. let one = at_most_sum (λ s. unsigned_abs (w s)) h.first h.actions s low high in
    let small : unsigned_abs (w s) ≤ bound = omega arith in
    omega (arith, unsigned_abs-mul (pos (slice_index play s)) (w s), mul-le-mul_left (slice_index play s) small))) in
    omega (arith, each, nat_sum_over-factor bound (λ s. slice_index play s) (sequences_of h), ap (λ n. n * bound) all)

-- a set's value is the worths of its sequences weighted by the play, over all units, rounded down
pub set_values_are_averages : SetValuesAreAverages
set_values_are_averages play worths h = floor_div-is_floor (sum_over (λ s. pos (slice_index play s) *ℤ worths s) (sequences_of h)) units (omega arith)
