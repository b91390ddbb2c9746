-- The sizes of weights, and the shares where all weights are 0 or nothing is shared.
use Rattle.std.proofs.Common.{◌≡◌, ℕ, ◌+◌, ◌*◌, ◌/◌, ◌<◌, ◌≤◌, List, length, get_or, map, replicate, ℤ, pos, negsuc, ◌≤ℤ◌}
use Rattle.std.proofs.Common.{unsigned_abs, refl, sym, ap, ◌∙◌, arith, ⊎_elim}
use Rattle.std.proofs.Math.ListN.{get_or-map}
use Rattle.std.proofs.lemmas.Bool.{cases_lt}
use Rattle.std.proofs.lemmas.Grind.{same_number_lists}
use Rattle.std.proofs.lemmas.List.{get_or-replicate, length-map, length-replicate}
use Rattle.def_round.specs.Shares.{prefix_sum, shares, weight_sum}
use Rattle.def_round.proofs.SharesLaws.{are_differences, length-shares}
use Rattle.xg_plan.proofs.ShareLemmas.{dealt_is_shares}

-- there is a size for each weight
pub length-sizes : (ws : List ℤ) → length (map unsigned_abs ws) ≡ length ws
length-sizes ws = length-map ws unsigned_abs

pub size_at : (ws : List ℤ) (i : ℕ) → get_or (map unsigned_abs ws) i 0 ≡ unsigned_abs (get_or ws i (pos 0))
size_at ws i = get_or-map unsigned_abs ws i (pos 0)

pub weight_is_size : (w : ℤ) → pos 0 ≤ℤ w → pos (unsigned_abs w) ≡ w
weight_is_size (pos n) h = refl
weight_is_size (negsuc n) h = absurd (omega arith)

-- where all weights are 0, a list with a share for each, which are the differences of equal parts, is the shares
pub even_is_shares : (n : ℕ) (ws out : List ℕ) → length out ≡ length ws → weight_sum ws ≡ 0
    → ((k : ℕ) → k < length ws → get_or out k 0 + n * k / length ws ≡ n * (k + 1) / length ws) → out ≡ shares n ws
even_is_shares n ws out long none each =
    same_number_lists out (shares n ws) (omega (arith, long, length-shares n ws))
    (λ k below. let low : k < length ws = omega arith in let d = (are_differences n ws k low).evenly none in omega (arith, d, each k low))

zero_over : (n sum : ℕ) → 1 ≤ sum → 0 * n / sum ≡ 0
zero_over n sum some = omega arith

-- of nothing each share is 0
pub zeros_are_shares : (ws out : List ℕ) → length out ≡ length ws → ((k : ℕ) → k < length ws → get_or out k 0 ≡ 0)
    → out ≡ shares 0 ws
zeros_are_shares ws out long each =
    ⊎_elim
    (λ some. dealt_is_shares 0 ws out long some (λ k below. omega (
      arith,
      each k below,
      zero_over (prefix_sum ws k) (weight_sum ws) some,
      zero_over (prefix_sum ws (k + 1)) (weight_sum ws) some,
    )))
    (λ none. even_is_shares 0 ws out long (omega arith) (λ k below. omega
    (arith, each k below, zero_over k (length ws) (omega arith), zero_over (k + 1) (length ws) (omega arith))))
    (cases_lt 0 (weight_sum ws))

-- in particular where zeros are written
pub no_shares : (n m : ℕ) (ws out : List ℕ) → n ≡ 0 → out ≡ replicate m 0 → m ≡ length ws → out ≡ shares n ws
no_shares n m ws out none zeros many =
    zeros_are_shares ws out (ap length zeros ∙ length-replicate m 0 ∙ many)
    (λ k below. ap (λ xs. get_or xs k 0) zeros ∙ get_or-replicate m k 0 0 (omega (arith, many, below)))
    ∙ ap (λ a. shares a ws) (sym none)

-- a weight of 0 adds nothing
pub none_more : (n before_upto weight sum : ℕ) → weight ≡ 0 → n * before_upto / sum ≡ n * (before_upto + weight) / sum
none_more n before_upto weight sum none = ap (λ k. n * k / sum) (omega (arith, none))
