-- What a round can add to the regrets of one set: they are never further apart than the set's values, and some are not
-- above 0 and some not below.
use Rattle.std.proofs.Common.{◌≡◌, ℕ, zero, suc, ◌+◌, ◌*◌, ◌≤◌, ◌<◌, ◌≢◌, ◌⊎◌, inl, inr, arith, ap, sym, subst, ⊎_elim}
use Rattle.std.specs.Prelude.{ℤ, pos, negsuc, ◌+ℤ◌, ◌-ℤ◌, ◌*ℤ◌, ◌≤ℤ◌, ◌<ℤ◌, neg_ℤ, unsigned_abs}
use Rattle.std.specs.List.{range_with_len}
use Rattle.std.proofs.lemmas.Int.{ints, by_lt_z}
use Rattle.std.proofs.lemmas.Bool.{cases_eq}
use Rattle.std.proofs.Math.Nat.{mul-le-mul_left}
use Rattle.def_sums.specs.Sum.{sum_over, nat_sum_over}
use Rattle.def_sums.proofs.RingLaws.{*ℤ-mono}
use Rattle.def_sums.proofs.SumLaws.{sum_over-mono}
use Rattle.def_sums.proofs.Ranges.{All-range, at_most_sum}
use Rattle.def_closing.proofs.Potential.{size_of}
use Rattle.def_round.proofs.Averages.{same_for_all}

abbrev pub InRow : ℕ → ℕ → ℕ → Type 0
InRow a n s = (a ≤ s) × (s < a + n)

-- either a function is above a number at each place of a row, or at some place it isn't
find : (f : ℕ → ℤ) (c : ℤ) (a n : ℕ)
    → ((s : ℕ) → InRow a n s → c <ℤ f s) ⊎ ((s : ℕ) × InRow a n s × (f s ≤ℤ c))
find f c a zero = inl (λ s is. absurd (omega arith))
find f c a (suc n) =
    by_lt_z c (f a)
    (λ (less : c <ℤ f a).
    ⊎_elim
    (λ all. inl (λ s is. ⊎_elim (λ (same : s ≡ a). subst (λ k. c <ℤ f k) (sym same) less) (λ (other : s ≢ a). all s (omega arith, omega arith)) (cases_eq s a)))
    (λ some. inr (some.0, (omega (arith, some.1), omega (arith, some.1)), some.2))
    (find f c (a + 1) n))
    (λ (le : f a ≤ℤ c). inr (a, (omega arith, omega arith), le))

-- two different places of a row
pub two_in_row : (f : ℕ → ℕ) (a n s t : ℕ) → InRow a n s → InRow a n t → s ≢ t
    → f s + f t ≤ nat_sum_over f (range_with_len a n)
two_in_row f a zero s t low high apart = absurd (omega arith)
two_in_row f a (suc n) s t low high apart =
    ⊎_elim
    (λ (same : s ≡ a). let e : f s ≡ f a = ap f same in let later = at_most_sum f (a + 1) n t (omega arith) (omega arith) in omega arith)
    (λ (other : s ≢ a). ⊎_elim
    (λ (same : t ≡ a). let e : f t ≡ f a = ap f same in let later = at_most_sum f (a + 1) n s (omega arith) (omega arith) in omega arith)
    (λ (other' : t ≢ a). let later = two_in_row f (a + 1) n s t (omega arith, omega arith) (omega arith, omega arith) apart in omega arith)
    (cases_eq t a))
    (cases_eq s a)

-- what is added, against a play of all units: the average is not below 0 and below 1, and no two are further apart than
-- `apart`
pub record IsGrowth (units : ℕ) (play : ℕ → ℕ) (growth : ℕ → ℤ) (apart : ℕ) (first actions : ℕ) : Type 0 where
  pub some : 1 ≤ units
  pub all_units : nat_sum_over play (range_with_len first actions) ≡ units
  pub not_below : pos 0 ≤ℤ sum_over (λ s. pos (play s) *ℤ growth s) (range_with_len first actions)
  pub below_one : sum_over (λ s. pos (play s) *ℤ growth s) (range_with_len first actions) <ℤ pos units
  pub none_apart : (s t : ℕ) → InRow first actions s → InRow first actions t → growth s ≤ℤ (growth t +ℤ pos apart)

all_above : (play : ℕ → ℕ) (f : ℕ → ℤ) (c : ℤ) (a n : ℕ) → ((s : ℕ) → InRow a n s → c ≤ℤ f s)
    → (c *ℤ pos (nat_sum_over play (range_with_len a n))) ≤ℤ sum_over (λ s. pos (play s) *ℤ f s) (range_with_len a n)
all_above play f c a n le =
    subst (λ z. z ≤ℤ sum_over (λ s. pos (play s) *ℤ f s) (range_with_len a n)) (same_for_all play c (range_with_len a n))
    (sum_over-mono (λ s. pos (play s) *ℤ c) (λ s. pos (play s) *ℤ f s) (range_with_len a n)
    (All-range (λ s. (pos (play s) *ℤ c) ≤ℤ (pos (play s) *ℤ f s)) a n (λ s low high. *ℤ-mono (play s) c (f s) (le s (low, high)))))

all_below : (play : ℕ → ℕ) (f : ℕ → ℤ) (c : ℤ) (a n : ℕ) → ((s : ℕ) → InRow a n s → f s ≤ℤ c)
    → sum_over (λ s. pos (play s) *ℤ f s) (range_with_len a n) ≤ℤ (c *ℤ pos (nat_sum_over play (range_with_len a n)))
all_below play f c a n le =
    subst (λ z. sum_over (λ s. pos (play s) *ℤ f s) (range_with_len a n) ≤ℤ z) (same_for_all play c (range_with_len a n))
    (sum_over-mono (λ s. pos (play s) *ℤ f s) (λ s. pos (play s) *ℤ c) (range_with_len a n)
    (All-range (λ s. (pos (play s) *ℤ f s) ≤ℤ (pos (play s) *ℤ c)) a n (λ s low high. *ℤ-mono (play s) (f s) c (le s (low, high)))))

abbrev HasNotAbove : (ℕ → ℤ) → ℕ → ℕ → Type 0
HasNotAbove f a n = (s : ℕ) × InRow a n s × (f s ≤ℤ pos 0)

abbrev HasNotBelow : (ℕ → ℤ) → ℕ → ℕ → Type 0
HasNotBelow f a n = (s : ℕ) × InRow a n s × (pos 0 ≤ℤ f s)

some_not_above : (u : ℕ) (p : ℕ → ℕ) (d : ℕ → ℤ) (l a n : ℕ) → IsGrowth u p d l a n → HasNotAbove d a n
some_not_above u p d l a n is =
    ⊎_elim
    (λ all. let above = all_above p d (pos 1) a n (λ s row. let one = all s row in omega (arith, ints)) in absurd
    (omega (arith, ints, above, is.all_units, is.below_one)))
    (λ some. some)
    (find d (pos 0) a n)

some_not_below : (u : ℕ) (p : ℕ → ℕ) (d : ℕ → ℤ) (l a n : ℕ) → IsGrowth u p d l a n → HasNotBelow d a n
some_not_below u p d l a n is =
    ⊎_elim
    (λ all. let below = all_below p d (negsuc 0) a n (λ s row. let one = all s row in omega (arith, ints)) in absurd
    (omega (arith, ints, below, is.all_units, is.not_below, is.some)))
    (λ some. (some.0, some.1, omega (arith, ints, some.2)))
    (find (λ s. neg_ℤ (d s)) (pos 0) a n)

-- ---- sizes
pub each_growth_within : (u : ℕ) (p : ℕ → ℕ) (d : ℕ → ℤ) (l a n : ℕ) → IsGrowth u p d l a n → (s : ℕ) → InRow a n s
    → unsigned_abs (d s) ≤ l
each_growth_within u p d l a n is s row =
    let low = some_not_above u p d l a n is in
    let high = some_not_below u p d l a n is in
    omega (arith, ints, is.none_apart s low.0 row low.1, is.none_apart high.0 s high.1 row, low.2, high.2)

-- what is left of `apart` at each action
abbrev slack : ℕ → (ℕ → ℤ) → ℕ → ℕ
slack l d s = unsigned_abs (pos l -ℤ pos (unsigned_abs (d s)))

slack_sum : (l : ℕ) (d : ℕ → ℤ) (a n : ℕ) → ((s : ℕ) → InRow a n s → unsigned_abs (d s) ≤ l)
    → size_of d (range_with_len a n) + nat_sum_over (slack l d) (range_with_len a n) ≡ n * l
slack_sum l d a zero le = omega arith
slack_sum l d a (suc n) le =
    omega (arith, ints, le a (omega arith, omega arith), slack_sum l d (a + 1) n (λ s row. le s (omega arith, omega arith)))

pub sizes_within : (u : ℕ) (p : ℕ → ℕ) (d : ℕ → ℤ) (l a n : ℕ) → IsGrowth u p d l a n
    → size_of d (range_with_len a n) + l ≤ n * l
sizes_within u p d l a n is =
    let low = some_not_above u p d l a n is in
    let high = some_not_below u p d l a n is in
    let within = each_growth_within u p d l a n is in
    let together = slack_sum l d a n within in
    let near = is.none_apart high.0 low.0 high.1 low.1 in
    ⊎_elim
    (λ (same : low.0 ≡ high.0).
    let e : d low.0 ≡ d high.0 = ap d same in
    let one = at_most_sum (slack l d) a n low.0 (low.1).0 (low.1).1 in
    omega (arith, ints, one, together, e, low.2, high.2, within low.0 low.1))
    (λ (other : low.0 ≢ high.0).
    let two = two_in_row (slack l d) a n low.0 high.0 low.1 high.1 other in
    omega (arith, ints, two, together, near, low.2, high.2, within low.0 low.1, within high.0 high.1))
    (cases_eq low.0 high.0)

square_size : (z : ℤ) (l : ℕ) → unsigned_abs z ≤ l → (z *ℤ z) ≤ℤ pos (l * unsigned_abs z)
square_size (pos n) l h = let m : n * n ≤ n * l = mul-le-mul_left n h in omega (arith, ints)
square_size (negsuc n) l h = let m : suc n * suc n ≤ suc n * l = mul-le-mul_left (suc n) h in omega (arith, ints)

squares_of_sizes : (d : ℕ → ℤ) (l a n : ℕ) → ((s : ℕ) → InRow a n s → unsigned_abs (d s) ≤ l)
    → sum_over (λ s. d s *ℤ d s) (range_with_len a n) ≤ℤ pos (l * size_of d (range_with_len a n))
squares_of_sizes d l a zero le = omega (arith, ints)
squares_of_sizes d l a (suc n) le =
    omega (arith, ints, square_size (d a) l (le a (omega arith, omega arith)), squares_of_sizes d l (a + 1) n (λ s row. le s (omega arith, omega arith)))

pub squares_within : (u : ℕ) (p : ℕ → ℕ) (d : ℕ → ℤ) (l a n : ℕ) → IsGrowth u p d l a n
    → sum_over (λ s. d s *ℤ d s) (range_with_len a n) ≤ℤ pos (l * size_of d (range_with_len a n))
squares_within u p d l a n is = squares_of_sizes d l a n (each_growth_within u p d l a n is)
