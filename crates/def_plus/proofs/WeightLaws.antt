-- What rounds weigh.
use Rattle.std.proofs.Common.{◌≡◌, ℕ, zero, suc, ◌+◌, ◌*◌, ◌≤◌, arith, ap, sym, ◌∙◌, refl, add-one}
use Rattle.std.proofs.Math.Nat.{mul-le-mul}
use Rattle.std.specs.List.{range_with_len}
use Rattle.def_sums.specs.Sum.{nat_sum_over}
use Rattle.def_sums.proofs.SumLaws.{nat_sum_over-append}
use Rattle.def_sums.proofs.Ranges.{range-append}
use Rattle.def_plus.specs.Weights.{total_weight}
use Rattle.def_plus.specs.Laws.{RoundsWeighTheirNumbers}

-- a sum over the rounds up to one, and the one behind them
pub one_more : (f : ℕ → ℕ) (n : ℕ) → nat_sum_over f (range_with_len 1 (n + 1)) ≡ nat_sum_over f (range_with_len 1 n) + f (n + 1)
one_more f n =
    let last : 1 + n ≡ n + 1 = omega arith in
    ap (nat_sum_over f) (range-append 1 n 1)
    ∙ nat_sum_over-append f (range_with_len 1 n) (range_with_len (1 + n) 1)
    ∙ ap (λ k. nat_sum_over f (range_with_len 1 n) + (f k + 0)) last
    ∙ omega arith

doubled : (n : ℕ) → 2 * nat_sum_over (λ k. k) (range_with_len 1 n) ≡ n * (n + 1)
doubled zero = refl
doubled (suc n) =
    let before = doubled n in
    let next = one_more (λ k. k) n in
    let same : nat_sum_over (λ k. k) (range_with_len 1 (suc n)) ≡ nat_sum_over (λ k. k) (range_with_len 1 (n + 1)) = ap
    (λ m. nat_sum_over (λ k. k) (range_with_len 1 m)) (sym (add-one n)) in
    omega (arith, before, next, same)

as_sum : (n : ℕ) → total_weight n ≡ nat_sum_over (λ k. k) (range_with_len 1 n)
as_sum n = omega (arith, doubled n)

-- one round more weighs its number more
pub next_weight : (n : ℕ) → total_weight (n + 1) ≡ total_weight n + (n + 1)
next_weight n = omega (arith, as_sum n, as_sum (n + 1), one_more (λ k. k) n)

-- later rounds weigh no less together
pub weights_rise : (m n : ℕ) → m ≤ n → total_weight m ≤ total_weight n
weights_rise m n le = omega (arith, mul-le-mul le (next_le m n le))
  where
    next_le : (m n : ℕ) → m ≤ n → m + 1 ≤ n + 1
    next_le m n h = omega arith

-- round k weighs k, and so within the limits the root of a sum is at most 2 ^ 36
pub rounds_weigh_their_numbers : RoundsWeighTheirNumbers
rounds_weigh_their_numbers = record {
  sum = as_sum;
  begins = refl;
  goes_on = next_weight;
  in_order = weights_rise;
  some = λ n some. weights_rise 1 n some;
  within_limits = λ root n small few. let product = mul-le-mul (weights_rise n 2048 few) small in omega (arith, product);
}
