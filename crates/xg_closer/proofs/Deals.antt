-- Shares one after another: what the weights before one get together, and one weight more.
use Rattle.std.proofs.Common.{◌≡◌, ℕ, ◌+◌, ◌*◌, ◌/◌, ◌<◌, ◌≤◌, List, [], ◌∷◌, length, get_or, ap, sym, ◌∙◌, arith, refl, ⊎_elim}
use Rattle.std.specs.Prelude.{ℤ}
use Rattle.std.proofs.lemmas.Bool.{cases_lt}
use Rattle.std.proofs.lemmas.List.FromFn.{length-map-range_with_len, get_or-map-range_with_len}
use Rattle.std.proofs.Math.Nat.{mul-div_left}
use Rattle.def_sums.specs.Sum.{nat_sum_over}
use Rattle.def_plan.specs.Form.{PlacedSet, sequences_of}
use Rattle.def_round.specs.Shares.{weight_sum, prefix_sum, prefix_share, shares}
use Rattle.def_round.proofs.SharesLaws.{are_differences, length-shares, prefix-all, prefix-more, shares_whole}
use Rattle.def_round.specs.Play.{positive_part, regret_of, regret_sum, units}
use Rattle.def_round.proofs.Plays.{sum_of_map}
use Rattle.xg_plan.proofs.ShareLemmas.{prefix-within, DealStep, step_of}
use Rattle.xg_closer.specs.Playing.{positive_parts}

-- one weight more: the step of dealing, and the weight's share
pub record OneMore (n : ℕ) (ws : List ℕ) (i sum_so_far sum : ℕ) : Type 0 where
  pub step : DealStep n ws i sum_so_far sum
  pub share : get_or (shares n ws) i 0 + prefix_share n ws i ≡ n * sum_so_far / sum

-- a weight and the sum before it make a step, and the weight's share is what the part of n grows by
pub one_more : (n : ℕ) (ws : List ℕ) (i before weight sum : ℕ) → i < length ws → 1 ≤ sum → sum ≡ weight_sum ws
    → before ≡ prefix_sum ws i → weight ≡ get_or ws i 0
    → OneMore n ws i (before + weight) sum
one_more n ws i before weight sum below some whole is at =
    let step : DealStep n ws i (before + weight) sum = step_of n ws i before weight sum below some whole is at in
    let difference = (are_differences n ws i below).by_weight (omega arith) in
    record { step = step; share = omega (arith, difference, step.share_next) }

-- nothing before the first weight
pub none_before : (n : ℕ) (ws : List ℕ) → 1 ≤ weight_sum ws → prefix_share n ws 0 ≡ 0
none_before n ws some = zero_over (weight_sum ws) some
  where
    zero_over : (sum : ℕ) → 1 ≤ sum → n * 0 / sum ≡ 0
    zero_over sum some = omega arith

-- the last weight gets what the weights before it leave of n
pub last_share : (n : ℕ) (ws : List ℕ) (i : ℕ) → i + 1 ≡ length ws → 1 ≤ weight_sum ws
    → get_or (shares n ws) i 0 + prefix_share n ws i ≡ n
last_share n ws i last some =
    let all : prefix_sum ws (i + 1) ≡ weight_sum ws = ap (λ k. prefix_sum ws k) last ∙ prefix-all ws in
    let whole : prefix_share n ws (i + 1) ≡ n = ap (λ c. n * c / weight_sum ws) all ∙ mul-div_left n some in
    omega (arith, (are_differences n ws i (omega (arith, last))).by_weight some, whole)

-- the share before it
pub share_before : (n : ℕ) (ws : List ℕ) (i before sum : ℕ) → sum ≡ weight_sum ws → before ≡ prefix_sum ws i
    → prefix_share n ws i ≡ n * before / sum
share_before n ws i before sum whole is = cc

-- where all weights are 0
pub even_share : (n : ℕ) (ws : List ℕ) (i count : ℕ) → i < count → length ws ≡ count → weight_sum ws ≡ 0
    → get_or (shares n ws) i 0 + n * i / count ≡ n * (i + 1) / count
even_share n ws i count below long none =
    let difference = (are_differences n ws i (omega arith)).evenly none in
    omega (arith, difference, ap (λ k. n * i / k) long, ap (λ k. n * (i + 1) / k) long)

-- one weight gets all
pub only_share : (n : ℕ) (ws : List ℕ) → length ws ≡ 1 → get_or (shares n ws) 0 0 ≡ n
only_share n ws one = sym (sum_of_one (shares n ws) (length-shares n ws ∙ one)) ∙ shares_whole n ws (omega arith)
  where
    sum_of_one : (xs : List ℕ) → length xs ≡ 1 → nat_sum_over (λ x. x) xs ≡ get_or xs 0 0
    sum_of_one [] h = absurd (omega (arith, h))
    sum_of_one (x ∷ []) h = omega arith
    sum_of_one (x ∷ y ∷ xs) h = absurd (omega (arith, h))

-- the shares of two weights
pub two_shares : (n q : ℕ) (ws : List ℕ) → length ws ≡ 2 → (1 ≤ weight_sum ws → q ≡ n * get_or ws 0 0 / weight_sum ws)
    → (weight_sum ws ≡ 0 → q ≡ n * 1 / 2)
    → (get_or (shares n ws) 0 0 ≡ q) × (get_or (shares n ws) 1 0 + q ≡ n)
two_shares n q ws two by_weight evenly =
    ⊎_elim
    (λ some.
    let one : prefix_sum ws 1 ≡ get_or ws 0 0 = omega (arith, prefix-more ws 0 (omega arith)) in
    let at_one : prefix_share n ws 1 ≡ q = ap (λ c. n * c / weight_sum ws) one ∙ sym (by_weight some) in
    let first = (are_differences n ws 0 (omega arith)).by_weight some in
    let second = last_share n ws 1 (omega arith) some in
    (omega (arith, first, none_before n ws some, at_one), omega (arith, second, at_one)))
    (λ none.
    let nothing : weight_sum ws ≡ 0 = omega arith in
    let half : q ≡ n * 1 / 2 = evenly nothing in
    let first = even_share n ws 0 2 (omega arith) two nothing in
    let second = even_share n ws 1 2 (omega arith) two nothing in
    (omega (arith, first, half), omega (arith, second, half)))
    (cases_lt 0 (weight_sum ws))

-- a set's positive parts: as many as it has actions, each that of its sequence, together the set's sum
pub length-positive_parts : (regrets : List ℤ) (h : PlacedSet) → length (positive_parts regrets h) ≡ h.actions
length-positive_parts regrets h = length-map-range_with_len (λ s. positive_part (regret_of regrets s)) h.first h.actions

-- the positive part of a sequence's regret stands at the sequence's place among those of its set
pub part_at : (regrets : List ℤ) (h : PlacedSet) (i : ℕ) → i < h.actions
    → positive_part (regret_of regrets (h.first + i)) ≡ get_or (positive_parts regrets h) i 0
part_at regrets h i below = sym (get_or-map-range_with_len (λ s. positive_part (regret_of regrets s)) h.first h.actions i (h.first + i) 0 below refl)

-- the positive parts of a set are together the set's sum
pub parts_together : (regrets : List ℤ) (h : PlacedSet) → regret_sum regrets h ≡ weight_sum (positive_parts regrets h)
parts_together regrets h = sum_of_map (λ s. positive_part (regret_of regrets s)) (sequences_of h)

-- with one more of a set's first positive parts, their sum grows by the positive part of the next sequence's regret
pub sum_more : (regrets : List ℤ) (h : PlacedSet) (i : ℕ) → i < h.actions
    → prefix_sum (positive_parts regrets h) (i + 1)
    ≡ prefix_sum (positive_parts regrets h) i + positive_part (regret_of regrets (h.first + i))
sum_more regrets h i below = omega (arith, prefix-more (positive_parts regrets h) i (omega (arith, length-positive_parts regrets h)), part_at regrets h i below)

-- the first positive parts of a set are together within the set's sum
pub sum_within : (regrets : List ℤ) (h : PlacedSet) (i : ℕ)
    → prefix_sum (positive_parts regrets h) i ≤ regret_sum regrets h
sum_within regrets h i = omega (arith, prefix-within (positive_parts regrets h) i, parts_together regrets h)

-- as many positive parts as the set has actions are together the set's sum
pub sum_of_all : (regrets : List ℤ) (h : PlacedSet)
    → prefix_sum (positive_parts regrets h) h.actions ≡ regret_sum regrets h
sum_of_all regrets h =
    ap (prefix_sum (positive_parts regrets h)) (sym (length-positive_parts regrets h)) ∙ prefix-all (positive_parts regrets h) ∙ sym (parts_together regrets h)

-- the sum of a set with two actions is the positive parts of both regrets together
pub parts_of_two : (regrets : List ℤ) (h : PlacedSet) → h.actions ≡ 2
    → regret_sum regrets h ≡ positive_part (regret_of regrets h.first) + positive_part (regret_of regrets (h.first + 1))
parts_of_two regrets h two =
    let first : h.first + 0 ≡ h.first = omega arith in
    omega (
      arith,
      sym (sum_of_all regrets h),
      ap (prefix_sum (positive_parts regrets h)) two,
      sum_more regrets h 0 (omega arith),
      sum_more regrets h 1 (omega arith),
      ap (λ s. positive_part (regret_of regrets s)) first,
    )

-- one positive part more of a set whose positive parts have a sum
pub part_more : (regrets : List ℤ) (h : PlacedSet) (i before part sum : ℕ) → i < h.actions → 1 ≤ sum → sum ≡ regret_sum regrets h
    → before ≡ prefix_sum (positive_parts regrets h) i → part ≡ positive_part (regret_of regrets (h.first + i))
    → OneMore units (positive_parts regrets h) i (before + part) sum
part_more regrets h i before part sum below some whole is at =
    one_more units (positive_parts regrets h) i before part sum (omega (arith, below, length-positive_parts regrets h)) some
    (whole ∙ parts_together regrets h) is (at ∙ part_at regrets h i below)
