-- The evaluated rounds.
use Rattle.std.proofs.Common.{◌≡◌, ℕ, zero, suc, ◌+◌, ◌-◌, ◌*◌, ◌/◌, ◌%◌, ◌≤◌, ◌<◌, min, ◌⊎◌, inl, inr, ◌↔◌, Bool, true, false, cond, ◌||◌, eqb, List, [], ◌∷◌}
use Rattle.std.proofs.Common.{map, length, get_or, filter, Contains, arith, ap, sym, ◌∙◌, refl, ⊎_elim, eq-eqb, eqb-true}
use Rattle.std.proofs.Math.Nat.{mul-le-mul_right, mul-mod_left}
use Rattle.std.specs.List.{range_with_len}
use Rattle.std.specs.List.Sorted.{IsStrictlyIncreasing}
use Rattle.std.proofs.lemmas.Bool.{cases_lt, false≢true}
use Rattle.std.proofs.lemmas.List.Elements.{All-filter, filter_passes, All-contains}
use Rattle.std.proofs.lemmas.List.Kept.{IsStrictlyIncreasing-filter, AllPairs-from_increasing}
use Rattle.std.proofs.lemmas.List.FromFn.{length-range_with_len, get_or-range_with_len, length-map-range_with_len, get_or-map-range_with_len}
use Rattle.def_sums.proofs.Ranges.{All-range}
use Rattle.def_sums.proofs.RisingLists.{same_elements, range_rises}
use Rattle.def_reply.specs.Bracket.{evaluated_rounds}
use Rattle.def_reply.specs.BracketLaws.{RoundsAreEvaluated}

abbrev is_evaluated : ℕ → ℕ → ℕ → Bool
is_evaluated every last k = eqb (k % every) 0 || eqb k last

either_true : (a b : Bool) → (a || b) ≡ true → (a ≡ true) ⊎ (b ≡ true)
either_true true b e = inl refl
either_true false b e = inr e

true_either : (a b : Bool) → (a ≡ true) ⊎ (b ≡ true) → (a || b) ≡ true
true_either true b h = refl
true_either false b h = ⊎_elim (λ e. absurd (false≢true e)) (λ e. e) h

put : (p : ℕ → Bool) (x y : ℕ) (xs : List ℕ) → (b : Bool) → (y ≡ x → b ≡ true) → (y ≡ x) ⊎ Contains (filter p xs) x
    → Contains (cond b (y ∷ filter p xs) (filter p xs)) x
put p x y xs true h (inl e) = (0, omega arith, e)
put p x y xs true h (inr c) = (suc c.0, omega (arith, c.1), c.2)
put p x y xs false h (inl e) = absurd (false≢true (h e))
put p x y xs false h (inr c) = c

contains_filter : (p : ℕ → Bool) (x : ℕ) (xs : List ℕ) (k : ℕ) → k < length xs → get_or xs k x ≡ x → p x ≡ true
    → Contains (filter p xs) x
contains_filter p x [] k low e t = absurd (omega arith)
contains_filter p x (y ∷ xs) zero low e t = put p x y xs (p y) (λ q. ap p q ∙ t) (inl e)
contains_filter p x (y ∷ xs) (suc k) low e t = put p x y xs (p y) (λ q. ap p q ∙ t) (inr (contains_filter p x xs k (omega arith) e t))

which : (every last k : ℕ)
    → Contains (evaluated_rounds every last) k ↔ ((1 ≤ k) × (k ≤ last) × ((k % every ≡ 0) ⊎ (k ≡ last)))
which every last k = (
  λ c.
      let p = is_evaluated every last in
      let rounds = range_with_len 1 last in
      let low = All-contains (λ j. 1 ≤ j) (filter p rounds) k (All-filter p (λ j. 1 ≤ j) rounds (All-range (λ j. 1 ≤ j) 1 last (λ j l h. l))) c in
      let high = All-contains (λ j. j ≤ last) (filter p rounds) k (All-filter p (λ j. j ≤ last) rounds
      (All-range (λ j. j ≤ last) 1 last (λ j l h. omega arith))) c in
      let pass = All-contains (λ j. p j ≡ true) (filter p rounds) k (filter_passes p rounds) c in
      (low, high, ⊎_elim (λ e. inl (eqb-true (k % every) 0 e)) (λ e. inr (eqb-true k last e)) (either_true (eqb (k % every) 0) (eqb k last) pass)),
  λ h.
      let here : get_or (range_with_len 1 last) (k - 1) k ≡ k = get_or-range_with_len 1 last (k - 1) k (omega (arith, h.0, h.1)) ∙ omega (arith, h.0) in
      contains_filter (is_evaluated every last) k (range_with_len 1 last) (k - 1) (omega (arith, h.0, h.1, length-range_with_len 1 last)) here
      (true_either (eqb (k % every) 0) (eqb k last) (⊎_elim (λ e. inl (eq-eqb (k % every) 0 e)) (λ e. inr (eq-eqb k last e)) h.2)),
)

-- ---- the i-th evaluated round
abbrev pub round_at : ℕ → ℕ → ℕ → ℕ
round_at every last i = min (i * every) last

abbrev pub how_many : ℕ → ℕ → ℕ
how_many every last = (last + every - 1) / every

enough : (every last : ℕ) → 1 ≤ every
    → (last ≤ how_many every last * every) × (how_many every last * every ≤ last + every - 1)
enough every last some = omega arith

not_last : (every last i : ℕ) → 1 ≤ every → i + 1 ≤ how_many every last → i * every < last
not_last every last i some more = omega (arith, enough every last some, mul-le-mul_right every more)

listed : (every last k : ℕ) → 1 ≤ every
    → Contains (map (round_at every last) (range_with_len 1 (how_many every last))) k
    → (1 ≤ k) × (k ≤ last) × ((k % every ≡ 0) ⊎ (k ≡ last))
listed every last k some c =
    let p : ℕ = c.0 in
    let low : p < how_many every last = omega (arith, c.1, length-map-range_with_len (round_at every last) 1 (how_many every last)) in
    let is : round_at every last (1 + p) ≡ k = sym (get_or-map-range_with_len (round_at every last) 1 (how_many every last) p (1 + p) k low refl) ∙ c.2 in
    let before : p * every < last = not_last every last p some (omega arith) in
    let positive : 1 ≤ (1 + p) * every = omega arith in (
      omega arith,
      omega arith,
      ⊎_elim (λ less. let whole : (1 + p) * every ≡ k = omega arith in inl (ap (λ n. n % every) (sym whole) ∙ mul-mod_left (1 + p) every))
          (λ le. inr (omega arith)) (cases_lt ((1 + p) * every) last),
    )

reached : (every last k : ℕ) → 1 ≤ every → (1 ≤ k) × (k ≤ last) × ((k % every ≡ 0) ⊎ (k ≡ last))
    → Contains (map (round_at every last) (range_with_len 1 (how_many every last))) k
reached every last k some h =
    ⊎_elim (λ e. whole e) (λ e. ends e) h.2
  where
    at : (i : ℕ) → 1 ≤ i → i ≤ how_many every last → round_at every last i ≡ k
        → Contains (map (round_at every last) (range_with_len 1 (how_many every last))) k
    at i low high is = (
      i - 1,
      omega (arith, length-map-range_with_len (round_at every last) 1 (how_many every last)),
      get_or-map-range_with_len (round_at every last) 1 (how_many every last) (i - 1) i k (omega arith) (omega arith) ∙ is,
    )

    whole : k % every ≡ 0 → Contains (map (round_at every last) (range_with_len 1 (how_many every last))) k
    whole e =
        let times : k / every * every ≡ k = omega arith in
        let some_time : 1 ≤ k / every = ⊎_elim (λ less. let none : k / every ≡ 0 = omega arith in absurd (omega (arith, h.0, ap (λ n. n * every) none)))
        (λ le. le) (cases_lt (k / every) 1) in
        let in_time : k / every ≤ how_many every last = ⊎_elim (λ less. absurd (omega (arith, h.1, enough every last some, mul-le-mul_right every less)))
        (λ le. le) (cases_lt (how_many every last) (k / every)) in
        at (k / every) some_time in_time (omega (arith, h.1))

    ends : k ≡ last → Contains (map (round_at every last) (range_with_len 1 (how_many every last))) k
    ends e =
        let some_time : 1 ≤ how_many every last = ⊎_elim (λ less. let none : how_many every last
        ≡ 0 = omega arith in absurd (omega (arith, h.0, enough every last some, ap (λ n. n * every) none))) (λ le. le) (cases_lt (how_many every last) 1) in
        at (how_many every last) some_time (omega arith) (omega (arith, enough every last some))

listed_up : (every last : ℕ) → 1 ≤ every
    → IsStrictlyIncreasing (map (round_at every last) (range_with_len 1 (how_many every last)))
listed_up every last some p low =
    let long = length-map-range_with_len (round_at every last) 1 (how_many every last) in
    let here = get_or-map-range_with_len (round_at every last) 1 (how_many every last) p (1 + p) 0 (omega arith) refl in
    let next = get_or-map-range_with_len (round_at every last) 1 (how_many every last) (p + 1) (2 + p) 0 (omega arith) (omega arith) in
    let before = not_last every last (1 + p) some (omega arith) in
    omega arith

in_order : (every last : ℕ) → IsStrictlyIncreasing (evaluated_rounds every last)
in_order every last = IsStrictlyIncreasing-filter (is_evaluated every last) (range_with_len 1 last) (range_rises 1 last)

one_by_one : (every last : ℕ) → 1 ≤ every
    → evaluated_rounds every last ≡ map (round_at every last) (range_with_len 1 (how_many every last))
one_by_one every last some =
    same_elements (evaluated_rounds every last) (map (round_at every last) (range_with_len 1 (how_many every last)))
    (AllPairs-from_increasing (evaluated_rounds every last) (in_order every last))
    (AllPairs-from_increasing (map (round_at every last) (range_with_len 1 (how_many every last))) (listed_up every last some))
    (λ k c. reached every last k some ((which every last k).0 c))
    (λ k c. (which every last k).1 (listed every last k some c))

-- multiples of `every` and the last round, in order: the i-th is i times `every`, or the last
pub rounds : RoundsAreEvaluated
rounds = record { which = which; in_order = in_order; one_by_one = one_by_one }
