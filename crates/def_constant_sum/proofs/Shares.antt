-- What is dealt at a node to its children: by chance's probabilities, or by a plan.
use Rattle.std.proofs.Common.{◌≡◌, ℕ, zero, suc, ◌+◌, ◌-◌, ◌<◌, ◌≤◌, List, [], ◌∷◌, length, get_or, refl, ap, sym, ◌∙◌, arith}
use Rattle.std.specs.Prelude.{ℤ, pos, ◌+ℤ◌, ◌*ℤ◌, All}
use Rattle.std.specs.List.{range_with_len}
use Rattle.std.proofs.lemmas.List.Elements.{All-head, All-tail}
use Rattle.def_sums.specs.Sum.{sum_over}
use Rattle.def_sums.proofs.RingLaws.{+ℤ_assoc, +ℤ-zero}
use Rattle.def_fraction.specs.Fraction.{Fraction, sum_of}
use Rattle.def_game_scale.specs.First.{sum_from}
use Rattle.def_game_scale.proofs.Expected.{lowest-sum}
use Rattle.def_constant_sum.proofs.Times.{IsTimes, times-sum}

-- times the sum of fractions that are added in order
pub times-sum_from : (c : ℤ) (running : Fraction) (fs : List Fraction) (d : Fraction) (w : ℤ) (n : ℕ → ℤ) (k : ℕ)
    → 1 ≤ running.den → All (λ f. 1 ≤ f.den) fs → IsTimes c running w
    → ((i : ℕ) → i < length fs → IsTimes c (get_or fs i d) (n (k + i)))
    → IsTimes c (sum_from running fs) (w +ℤ sum_over n (range_with_len k (length fs)))
times-sum_from c running [] d w n k some all is each = ap (λ z. z *ℤ pos running.den) (+ℤ-zero w) ∙ is
times-sum_from c running (f ∷ fs) d w n k some all is each =
    let first : n (k + 0) ≡ n k = ap n (omega arith) in
    let here : IsTimes c f (n k) = rw first at (each 0 (omega arith)) in
    let some_f : 1 ≤ f.den = All-head (λ (g : Fraction). 1 ≤ g.den) f fs all in
    let later : (i : ℕ) → i < length fs → IsTimes c (get_or fs i d) (n (k + 1 + i)) =
    λ i low. let next : n (k + suc i) ≡ n (k + 1 + i) = ap n (omega arith) in rw next at (each (suc i) (omega arith)) in
    let rest = times-sum_from c (sum_of running f) fs d (w +ℤ n k) n (k + 1) (lowest-sum running f some some_f).positive
    (All-tail (λ (g : Fraction). 1 ≤ g.den) f fs all) (times-sum c running f w (n k) some some_f is here) later in
    ap (λ z. z *ℤ pos (sum_from (sum_of running f) fs).den) (sym (+ℤ_assoc w (n k) (sum_over n (range_with_len (k + 1) (length fs))))) ∙ rest

-- a sum over actions is one over sequences
pub sum_over-shifted : (f : ℕ → ℤ) (first k n : ℕ)
    → sum_over (λ a. f (first + (a - 1))) (range_with_len (k + 1) n) ≡ sum_over f (range_with_len (first + k) n)
sum_over-shifted f first k zero = refl
sum_over-shifted f first k (suc n) =
    let here : first + (k + 1 - 1) ≡ first + k = omega arith in
    let next : first + (k + 1) ≡ first + k + 1 = omega arith in
    ap (λ z. f z +ℤ sum_over (λ a. f (first + (a - 1))) (range_with_len (k + 1 + 1) n)) here
    ∙ ap (λ z. f (first + k) +ℤ z) (sum_over-shifted f first (k + 1) n ∙ ap (λ m. sum_over f (range_with_len m n)) next)
