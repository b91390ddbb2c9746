-- The laws of shares, from the floors of the prefix sums.
use Rattle.std.proofs.Common.{◌≡◌, ℕ, zero, suc, ◌+◌, ◌-◌, ◌*◌, ◌/◌, ◌<◌, ◌≤◌, Bool, true, false, cond, eqb, List, [], ◌∷◌, length, get_or, take, replicate}
use Rattle.std.proofs.Common.{refl, sym, ap, ◌∙◌, arith, add-zero, add-one}
use Rattle.std.proofs.lemmas.List.FromFn.{length-map-range_with_len, get_or-map-range_with_len}
use Rattle.std.proofs.lemmas.List.{length-replicate, take_more}
use Rattle.std.proofs.Math.Seq.{take-length}
use Rattle.std.proofs.Math.Nat.{add-mul, mul-add, le_refl, mul-div_left}
use Rattle.std.proofs.lemmas.Nat.{le-div, div-add-mod', mod_below}
use Rattle.std.proofs.lemmas.Bool.Decides.{nat_tests}
use Rattle.def_sums.specs.Sum.{nat_sum_over}
use Rattle.def_sums.proofs.SumLaws.{nat_sum_over-append}
use Rattle.def_round.specs.Shares.{weight_sum, prefix_sum, weights_or_ones, prefix_share, shares_in_proportion, shares}
use Rattle.def_round.specs.ShareLaws.{SharesDealAll, SharesBeforeAddUp, SharesAreDifferences, SharesAreInProportion, IsWithinOne, NoWeightNoShare}

-- ---- the weights that are dealt
replicate_sum : (n : ℕ) → weight_sum (replicate n 1) ≡ n
replicate_sum zero = refl
replicate_sum (suc n) = omega (arith, replicate_sum n)

length-weights_or_ones : (weights : List ℕ) → length (weights_or_ones weights) ≡ length weights
length-weights_or_ones weights = by_sum (eqb (weight_sum weights) 0)
  where
    by_sum : (none : Bool) → length (cond none (replicate (length weights) 1) weights) ≡ length weights
    by_sum true = length-replicate (length weights) 1
    by_sum false = refl

some_weight : (weights : List ℕ) → 1 ≤ length weights → 1 ≤ weight_sum (weights_or_ones weights)
some_weight weights some = by_sum (eqb (weight_sum weights) 0) refl
  where
    by_sum : (none : Bool) → eqb (weight_sum weights) 0 ≡ none
        → 1 ≤ weight_sum (cond none (replicate (length weights) 1) weights)
    by_sum true e = omega (arith, replicate_sum (length weights))
    by_sum false e = grind (arith, nat_tests)

-- ---- prefix sums
-- one weight more adds that weight to the sum of those before it
pub prefix-more : (weights : List ℕ) (i : ℕ) → i < length weights
    → prefix_sum weights (i + 1) ≡ prefix_sum weights i + get_or weights i 0
prefix-more weights i below = ap weight_sum (take_more weights i 0 below) ∙ nat_sum_over-append (λ w. w) (take i weights) (get_or weights i 0 ∷ [])
    ∙ ap (λ n. prefix_sum weights i + n) (add-zero (get_or weights i 0))

-- the sum before the end is that of all weights
pub prefix-all : (weights : List ℕ) → prefix_sum weights (length weights) ≡ weight_sum weights
prefix-all weights = ap weight_sum (take-length weights)

-- ---- floors of two products, one after the other
quotients : (low part high sum : ℕ) → 1 ≤ sum → low + part ≡ high
    → (low / sum ≤ high / sum) × (part < (high / sum - low / sum + 1) * sum)
    × ((high / sum - low / sum) * sum < part + sum)
quotients low part high sum some is = (no_less, above, below)
  where
    no_less : low / sum ≤ high / sum
    no_less = le-div (low / sum) high sum some (omega (arith, div-add-mod' low sum))

    split : (high / sum - low / sum) * sum + low / sum * sum ≡ high / sum * sum
    split = let e : high / sum - low / sum + low / sum ≡ high / sum = omega (arith, no_less) in sym (add-mul (high / sum - low / sum) (low / sum) sum)
        ∙ ap (λ q. q * sum) e

    above : part < (high / sum - low / sum + 1) * sum
    above = omega (arith, split, div-add-mod' low sum, div-add-mod' high sum, mod_below high sum some, is)

    below : (high / sum - low / sum) * sum < part + sum
    below = omega (arith, split, div-add-mod' low sum, div-add-mod' high sum, mod_below low sum some, is)

step_of : (n : ℕ) (weights : List ℕ) (i : ℕ) → i < length weights
    → n * prefix_sum weights i + n * get_or weights i 0 ≡ n * prefix_sum weights (i + 1)
step_of n weights i below = sym (mul-add n (prefix_sum weights i) (get_or weights i 0)) ∙ ap (λ c. n * c) (sym (prefix-more weights i below))

-- ---- the shares of weights that don't add up to 0
share_at : (n : ℕ) (weights : List ℕ) (i : ℕ) → i < length weights
    → get_or (shares_in_proportion n weights) i 0 ≡ prefix_share n weights (i + 1) - prefix_share n weights i
share_at n weights i below = get_or-map-range_with_len (λ (i : ℕ). prefix_share n weights (i + 1) - prefix_share n weights i) 0 (length weights) i i 0 below
    (omega arith)

difference : (n : ℕ) (weights : List ℕ) → 1 ≤ weight_sum weights → (i : ℕ) → i < length weights
    → get_or (shares_in_proportion n weights) i 0 + prefix_share n weights i ≡ prefix_share n weights (i + 1)
difference n weights some i below =
    let q = quotients (n * prefix_sum weights i) (n * get_or weights i 0) (n * prefix_sum weights (i + 1)) (weight_sum weights) some
    (step_of n weights i below) in
    omega (arith, share_at n weights i below, q.0)

within : (n : ℕ) (weights : List ℕ) → 1 ≤ weight_sum weights → (i : ℕ) → i < length weights
    → IsWithinOne n (get_or weights i 0) (weight_sum weights) (get_or (shares_in_proportion n weights) i 0)
within n weights some i below =
    let q = quotients (n * prefix_sum weights i) (n * get_or weights i 0) (n * prefix_sum weights (i + 1)) (weight_sum weights) some
    (step_of n weights i below) in
    rw share_at (record { above = q.1; below = q.2 })

length-shares_in_proportion : (n : ℕ) (weights : List ℕ) → length (shares_in_proportion n weights) ≡ length weights
length-shares_in_proportion n weights = length-map-range_with_len (λ (i : ℕ). prefix_share n weights (i + 1) - prefix_share n weights i) 0 (length weights)

-- no part of n, over a sum, is 0
pub nothing_over : (n sum : ℕ) → 1 ≤ sum → n * 0 / sum ≡ 0
nothing_over n sum some = omega arith

before : (n : ℕ) (weights : List ℕ) → 1 ≤ weight_sum weights → (i : ℕ) → i ≤ length weights
    → weight_sum (take i (shares_in_proportion n weights)) ≡ prefix_share n weights i
before n weights some zero within = sym (nothing_over n (weight_sum weights) some)
before n weights some (suc i) within =
    let below : i < length (shares_in_proportion n weights) = omega (arith, length-shares_in_proportion n weights) in
    let below' : i < length weights = omega arith in
    let more = prefix-more (shares_in_proportion n weights) i below in
    let e : prefix_share n weights (i + 1) ≡ prefix_share n weights (suc i) = ap (prefix_share n weights) (add-one i) in
    let f : prefix_sum (shares_in_proportion n weights) (i + 1) ≡ prefix_sum (shares_in_proportion n weights) (suc i) = ap
    (prefix_sum (shares_in_proportion n weights)) (add-one i) in
    omega (arith, more, difference n weights some i below', before n weights some i (omega arith), e, f)

-- ---- the laws
before_all : (n : ℕ) (weights : List ℕ) (i : ℕ) → i ≤ length weights
    → weight_sum (take i (shares n weights)) ≡ prefix_share n (weights_or_ones weights) i
before_all n [] zero within = none n
  where
    none : (n : ℕ) → 0 ≡ n * 0 / 0
    none n = omega arith
before_all n [] (suc i) within = absurd (omega arith)
before_all n (w ∷ ws) i within =
    before n (weights_or_ones (w ∷ ws)) (some_weight (w ∷ ws) (omega arith)) i (omega (arith, length-weights_or_ones (w ∷ ws)))

-- there are as many shares as weights
pub length-shares : (n : ℕ) (weights : List ℕ) → length (shares n weights) ≡ length weights
length-shares n weights = length-shares_in_proportion n (weights_or_ones weights) ∙ length-weights_or_ones weights

whole_share : (n sum : ℕ) → 1 ≤ sum → n * sum / sum ≡ n
whole_share n sum some = mul-div_left n some

-- where there is a weight, the shares add up to n
pub shares_whole : (n : ℕ) (weights : List ℕ) → 1 ≤ length weights
    → nat_sum_over (λ share. share) (shares n weights) ≡ n
shares_whole n weights some =
    let all : take (length weights) (shares n weights) ≡ shares n weights = ap (λ k. take k (shares n weights)) (sym (length-shares n weights))
    ∙ take-length (shares n weights) in
    let e = before_all n weights (length weights) (le_refl (length weights)) in
    let whole : prefix_share n (weights_or_ones weights) (length weights) ≡ n * weight_sum (weights_or_ones weights) / weight_sum (weights_or_ones weights) =
    ap (λ k. prefix_share n (weights_or_ones weights) k) (sym (length-weights_or_ones weights))
    ∙ ap (λ c. n * c / weight_sum (weights_or_ones weights)) (prefix-all (weights_or_ones weights)) in
    ap weight_sum (sym all) ∙ e ∙ whole ∙ whole_share n (weight_sum (weights_or_ones weights)) (some_weight weights some)

-- there is a share for each weight, and they add up to n
pub deal_all : SharesDealAll
deal_all n weights some = record { one_each = length-shares n weights; whole = shares_whole n weights some }

-- a share is the weight's part of n, but for less than one unit
pub in_proportion : SharesAreInProportion
in_proportion n weights i below = within n (weights_or_ones weights) (some_weight weights (omega arith)) i (omega (arith, length-weights_or_ones weights))

-- weights of which one is not 0 are dealt as they are
pub own_weights : (weights : List ℕ) → 1 ≤ weight_sum weights → weights_or_ones weights ≡ weights
own_weights weights some = by_sum (eqb (weight_sum weights) 0) refl
  where
    by_sum : (none : Bool) → eqb (weight_sum weights) 0 ≡ none
        → cond none (replicate (length weights) 1) weights ≡ weights
    by_sum true e = absurd (let z : weight_sum weights ≡ 0 = grind (arith, nat_tests) in omega (arith, z, some))
    by_sum false e = refl

-- where all weights are 0
all_ones : (weights : List ℕ) → weight_sum weights ≡ 0 → weights_or_ones weights ≡ replicate (length weights) 1
all_ones weights none = by_sum (eqb (weight_sum weights) 0) (grind (arith, nat_tests))
  where
    by_sum : (zero' : Bool) → zero' ≡ true
        → cond zero' (replicate (length weights) 1) weights ≡ replicate (length weights) 1
    by_sum true e = refl
    by_sum false e = absurd (cc)

prefix_of_ones : (n i : ℕ) → i ≤ n → prefix_sum (replicate n 1) i ≡ i
prefix_of_ones n zero within = refl
prefix_of_ones zero (suc i) within = absurd (omega arith)
prefix_of_ones (suc n) (suc i) within = omega (arith, prefix_of_ones n i (omega arith))

-- the shares before a place add up to the part of n that the weights before it have, rounded down
pub before_add_up : SharesBeforeAddUp
before_add_up n weights i within = record {
  by_weight = λ some. before_all n weights i within ∙ ap (λ ws. prefix_share n ws i) (own_weights weights some);
  evenly = λ none.
      before_all n weights i within ∙ ap (λ ws. prefix_share n ws i) (all_ones weights none)
      ∙ ap (λ c. n * c / weight_sum (replicate (length weights) 1)) (prefix_of_ones (length weights) i within)
      ∙ ap (λ c. n * i / c) (replicate_sum (length weights));
}

-- a share and what the weights before it get make what the weights up to it get
pub are_differences : SharesAreDifferences
are_differences n weights i below = record {
  by_weight = λ some. ap (λ ws. get_or (shares_in_proportion n ws) i 0 + prefix_share n weights i) (own_weights weights some)
      ∙ difference n weights some i below;
  evenly = λ none.
      let ones : List ℕ = replicate (length weights) 1 in
      let own = all_ones weights none in
      let long : i < length ones = omega (arith, length-replicate {A = ℕ} (length weights) 1) in
      let some : 1 ≤ weight_sum ones = omega (arith, replicate_sum (length weights)) in
      let d = difference n ones some i long in
      let before : prefix_share n ones i ≡ n * i / length weights = even n (length weights) i (omega arith) in
      let upto : prefix_share n ones (i + 1) ≡ n * (i + 1) / length weights = even n (length weights) (i + 1) (omega arith) in
      let here : get_or (shares n weights) i 0 ≡ get_or (shares_in_proportion n ones) i 0 = ap (λ ws. get_or (shares_in_proportion n ws) i 0) own in
      omega (arith, d, before, upto, here);
}
  where
    even : (n long i : ℕ) → i ≤ long → prefix_share n (replicate long 1) i ≡ n * i / long
    even n long i fits = ap (λ c. n * c / weight_sum (replicate long 1)) (prefix_of_ones long i fits) ∙ ap (λ c. n * i / c) (replicate_sum long)

-- what has no weight gets nothing, where something has a weight
pub no_weight_no_share : NoWeightNoShare
no_weight_no_share n weights i below some none =
    let own = own_weights weights some in
    let d = difference n weights some i below in
    let e : prefix_sum weights (i + 1) ≡ prefix_sum weights i = omega (arith, prefix-more weights i below, none) in
    let f : prefix_share n weights (i + 1) ≡ prefix_share n weights i = ap (λ c. n * c / weight_sum weights) e in
    ap (λ ws. get_or (shares_in_proportion n ws) i 0) own ∙ nothing (get_or (shares_in_proportion n weights) i 0) (prefix_share n weights i) (d ∙ f)
  where
    nothing : (share before : ℕ) → share + before ≡ before → share ≡ 0
    nothing share before e = omega arith
