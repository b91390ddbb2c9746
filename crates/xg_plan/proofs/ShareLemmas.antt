-- Prefix sums of weights, and when a list is the shares of n.
use Rattle.std.proofs.Common.{◌≡◌, ℕ, zero, suc, ◌+◌, ◌*◌, ◌/◌, ◌<◌, ◌≤◌, ◌≢◌, List, [], ◌∷◌, length, get_or}
use Rattle.std.proofs.Common.{sym, ap, ◌∙◌, arith, ⊎_elim, below_more}
use Rattle.std.proofs.Math.ListN.{set}
use Rattle.std.proofs.Math.Nat.{mul-le-mul_left, mul-div_left}
use Rattle.std.proofs.lemmas.Bool.{cases_eq}
use Rattle.std.proofs.lemmas.Grind.{same_number_lists}
use Rattle.std.proofs.lemmas.List.{get_or-set_other, get_or-set_same}
use Rattle.std.proofs.lemmas.Nat.{div-add-mod', le-div}
use Rattle.def_round.specs.Shares.{prefix_share, prefix_sum, shares, weight_sum}
use Rattle.def_round.proofs.SharesLaws.{are_differences, length-shares, nothing_over, prefix-all, prefix-more}

-- the first i weights are together within the sum of all
pub prefix-within : (ws : List ℕ) (i : ℕ) → prefix_sum ws i ≤ weight_sum ws
prefix-within ws zero = omega arith
prefix-within [] (suc i) = omega arith
prefix-within (w ∷ ws) (suc i) = omega (arith, prefix-within ws i)

-- there are weights where they weigh something
pub some_weigh : (ws : List ℕ) → 1 ≤ weight_sum ws → 1 ≤ length ws
some_weigh [] some = absurd (omega arith)
some_weigh (w ∷ ws) some = omega arith

-- a greater part of n, over a sum, is no smaller
pub quotient_grows : (n a b sum : ℕ) → 1 ≤ sum → a ≤ b → n * a / sum ≤ n * b / sum
quotient_grows n a b sum some h = le-div (n * a / sum) (n * b) sum some (omega (arith, div-add-mod' (n * a) sum, mul-le-mul_left n h))

-- what a part within the sum gets of n is within n
pub quotient_within : (n a sum : ℕ) → 1 ≤ sum → a ≤ sum → n * a / sum ≤ n
quotient_within n a sum some h = omega (arith, quotient_grows n a sum sum some h, mul-div_left n some)

-- a list with a share for each weight, in which each share is what its weight adds, is the shares
pub dealt_is_shares : (n : ℕ) (ws out : List ℕ) → length out ≡ length ws → 1 ≤ weight_sum ws
    → ((k : ℕ) → k < length ws → get_or out k 0 + prefix_share n ws k ≡ prefix_share n ws (k + 1)) → out ≡ shares n ws
dealt_is_shares n ws out long some each =
    same_number_lists out (shares n ws) (omega (arith, long, length-shares n ws))
    (λ k below. let low : k < length ws = omega arith in let d = (are_differences n ws k low).by_weight some in omega (arith, d, each k low))

-- one more share in a list of differences
pub dealt_more : (share_upto : ℕ → ℕ) (out : List ℕ) (i share : ℕ) → i < length out
    → share + share_upto i ≡ share_upto (i + 1)
    → ((k : ℕ) → k < i → get_or out k 0 + share_upto k ≡ share_upto (k + 1)) → (k : ℕ) → k < i + 1
    → get_or (set out i share) k 0 + share_upto k ≡ share_upto (k + 1)
dealt_more share_upto out i share below here before =
    below_more _ _ (λ k h. let ne : k ≢ i = omega arith in rw get_or-set_other (before k h)) (rw get_or-set_same here)

-- one step of dealing: the next prefix, that it is within the sum, and the quotients
pub record DealStep (n : ℕ) (ws : List ℕ) (i upto sum : ℕ) : Type 0 where
  pub next : upto ≡ prefix_sum ws (i + 1)
  pub within : upto ≤ sum
  pub share_next : n * upto / sum ≡ prefix_share n ws (i + 1)
  pub share_within : n * upto / sum ≤ n
  pub grows : prefix_share n ws i ≤ n * upto / sum

-- a weight and the sum before it are the sum up to it, whose part of n is no smaller than before and within n
pub step_of : (n : ℕ) (ws : List ℕ) (i before_upto weight sum : ℕ) → i < length ws → 1 ≤ sum → sum ≡ weight_sum ws
    → before_upto ≡ prefix_sum ws i → weight ≡ get_or ws i 0
    → DealStep n ws i (before_upto + weight) sum
step_of n ws i before_upto weight sum below some whole is at =
    let next : before_upto + weight ≡ prefix_sum ws (i + 1) = omega (arith, prefix-more ws i below) in
    let within : before_upto + weight ≤ sum = omega (arith, prefix-within ws (i + 1)) in
    let share_next : n * (before_upto + weight) / sum ≡ prefix_share n ws (i + 1) = cc in
    let low : prefix_share n ws i ≡ n * before_upto / sum = cc in
    record {
      next = next;
      within = within;
      share_next = share_next;
      share_within = quotient_within n (before_upto + weight) sum some within;
      grows = omega (arith, low, quotient_grows n before_upto (before_upto + weight) sum some (omega arith));
    }

-- one weight gets all
pub one_share : (n : ℕ) (ws out : List ℕ) → length ws ≡ 1 → length out ≡ 1 → 1 ≤ weight_sum ws → get_or out 0 0 ≡ n
    → out ≡ shares n ws
one_share n ws out one long some all =
    let whole : prefix_sum ws 1 ≡ weight_sum ws = ap (λ k. prefix_sum ws k) (sym one) ∙ prefix-all ws in
    let at_one : prefix_share n ws 1 ≡ n = ap (λ c. n * c / weight_sum ws) whole ∙ mul-div_left n some in
    dealt_is_shares n ws out (omega arith) some
    (λ k below.
    let none : k ≡ 0 = omega arith in
    omega (
      arith,
      ap (λ k. get_or out k 0) none,
      ap (λ k. prefix_share n ws k) none,
      ap (λ k. prefix_share n ws (k + 1)) none,
      nothing_over n (weight_sum ws) some,
      at_one,
      all,
    ))

-- the first of two weights gets its part, rounded down, and the other one the rest
pub two_shares : (n q : ℕ) (ws out : List ℕ) → length ws ≡ 2 → length out ≡ 2 → 1 ≤ weight_sum ws → get_or out 0 0 ≡ q
    → get_or out 1 0 + q ≡ n
    → q ≡ n * get_or ws 0 0 / weight_sum ws → out ≡ shares n ws
two_shares n q ws out two long some first second is =
    let one : prefix_sum ws 1 ≡ get_or ws 0 0 = omega (arith, prefix-more ws 0 (omega arith)) in
    let all : prefix_sum ws 2 ≡ weight_sum ws = ap (λ k. prefix_sum ws k) (sym two) ∙ prefix-all ws in
    let at_none : prefix_share n ws 0 ≡ 0 = nothing_over n (weight_sum ws) some in
    let at_one : prefix_share n ws 1 ≡ q = ap (λ c. n * c / weight_sum ws) one ∙ sym is in
    let at_two : prefix_share n ws 2 ≡ n = ap (λ c. n * c / weight_sum ws) all ∙ mul-div_left n some in
    dealt_is_shares n ws out (omega arith) some
    (λ k below.
    ⊎_elim
    (λ zero_is. omega (
      arith,
      ap (λ k. get_or out k 0) zero_is,
      ap (λ k. prefix_share n ws k) zero_is,
      ap (λ k. prefix_share n ws (k + 1)) zero_is,
      at_none,
      at_one,
      first,
    ))
    (λ other. let one_is : k ≡ 1 = omega arith in omega (
      arith,
      ap (λ k. get_or out k 0) one_is,
      ap (λ k. prefix_share n ws k) one_is,
      ap (λ k. prefix_share n ws (k + 1)) one_is,
      at_one,
      at_two,
      second,
    ))
    (cases_eq k 0))
