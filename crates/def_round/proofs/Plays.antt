-- Plays, and the plans that they deal.
use Rattle.std.proofs.Common.{◌≡◌, ℕ, suc, ◌+◌, ◌-◌, ◌≤◌, ◌<◌, List, [], ◌∷◌, ◌++◌, map, length, get_or, slice_index, All, arith, ap, sym, ◌∙◌, refl}
use Rattle.std.proofs.Common.{length-append}
use Rattle.std.specs.Prelude.{ℤ, pos, negsuc, ◌≤ℤ◌, ◌<ℤ◌}
use Rattle.std.specs.List.{range_with_len, AllZip}
use Rattle.std.proofs.lemmas.List.{append-nil, get_or_append_left}
use Rattle.std.proofs.lemmas.List.FromFn.{length-map-range_with_len, get_or-map-range_with_len}
use Rattle.std.proofs.lemmas.Int.{ints}
use Rattle.std.proofs.lemmas.List.Elements.{All-head, All-tail, All-cons, All-nil}
use Rattle.def_sums.specs.Sum.{nat_sum_over}
use Rattle.def_sums.proofs.Ranges.{at_most_sum, map-range_same}
use Rattle.def_plan.specs.Form.{InformationSet, PlacedSet, placed_from, placed, sequences_of, IsInOrder}
use Rattle.def_plan.specs.Plan.{dealt_onto, DealsWhole}
use Rattle.def_plan.proofs.Rules.{dealt-only}
use Rattle.def_plan.proofs.Dealing.{IsDealt, dealt_onto-is_dealt, dealt-is_plan}
use Rattle.def_round.specs.Shares.{weight_sum}
use Rattle.def_round.proofs.SharesLaws.{length-shares, shares_whole, no_weight_no_share}
use Rattle.def_round.specs.Play.{units, positive_part, regret_of, set_play, play_of, play_rule}
use Rattle.def_round.specs.Laws.{PlaysPositiveRegrets, PlaysHaveEachSet, PlaysGiveAllUnits, PlaysDealPlans, PlaysDealByShares, PlansOfPlaysAreUnique}
use Rattle.def_round.specs.Laws.{PositivePartsAreExact}
use Rattle.def_round.proofs.Blocks.{map-block, blocks, length-blocks}

length-set_play : (regrets : List ℤ) (h : PlacedSet) → length (set_play regrets h) ≡ h.actions
length-set_play regrets h =
    length-shares units (map (λ s. positive_part (regret_of regrets s)) (sequences_of h))
    ∙ length-map-range_with_len (λ s. positive_part (regret_of regrets s)) h.first h.actions

-- a play has a number for each sequence: at each set the shares of its regrets' positive parts
pub plays_each_set : PlaysHaveEachSet
plays_each_set sets regrets = record {
  all_sequences = ap (λ n. suc n) (length-blocks (set_play regrets) (length-set_play regrets) 1 sets) ∙ omega arith;
  none_of_empty = refl;
  each_set = blocks (set_play regrets) 0 (length-set_play regrets) (0 ∷ []) 1 sets refl;
}

-- a sum over a row is the sum of the list of its values
pub sum_of_map : (f : ℕ → ℕ) (xs : List ℕ) → nat_sum_over (λ s. f s) xs ≡ nat_sum_over (λ x. x) (map f xs)
sum_of_map f [] = refl
sum_of_map f (x ∷ xs) = ap (λ n. f x + n) (sum_of_map f xs)

-- what a set's actions are played adds up to all units
pub plays_all_units : PlaysGiveAllUnits
plays_all_units sets regrets order k d below =
    let h : PlacedSet = get_or (placed sets) k d in
    let play : List ℕ = play_of sets regrets in
    let some : 1 ≤ length (map (λ s. positive_part (regret_of regrets s)) (sequences_of h)) =
    omega (arith, length-map-range_with_len (λ s. positive_part (regret_of regrets s)) h.first h.actions, (order k d below).0) in
    sum_of_map (λ s. slice_index play s) (sequences_of h)
    ∙ ap (nat_sum_over (λ x. x)) ((plays_each_set sets regrets).each_set k d below)
    ∙ shares_whole units (map (λ s. positive_part (regret_of regrets s)) (sequences_of h)) some

-- ---- regret matching
no_part : (r : ℤ) → r ≤ℤ pos 0 → positive_part r ≡ 0
no_part (pos n) h = omega (arith, ints)
no_part (negsuc n) h = refl

own_part : (r : ℤ) → pos 0 ≤ℤ r → pos (positive_part r) ≡ r
own_part (pos n) h = refl
own_part (negsuc n) h = absurd (omega (arith, ints))

-- a regret that isn't negative is its own positive part, and of any other it is 0
pub positive_parts_are_exact : PositivePartsAreExact
positive_parts_are_exact = record { of_positive = own_part; of_others = no_part }

some_part : (r : ℤ) → pos 0 <ℤ r → 1 ≤ positive_part r
some_part (pos n) h = omega (arith, ints)
some_part (negsuc n) h = absurd (omega (arith, ints))

-- beside an action with a positive regret, an action without one isn't played
pub plays_positive_regrets : PlaysPositiveRegrets
plays_positive_regrets sets regrets k d below s t is_s is_t positive none =
    let h : PlacedSet = get_or (placed sets) k d in
    let part : ℕ → ℕ = λ s. positive_part (regret_of regrets s) in
    let weights : List ℕ = map part (sequences_of h) in
    let i : ℕ = s - h.first in
    let long : length weights ≡ h.actions = length-map-range_with_len part h.first h.actions in
    let some : 1 ≤ weight_sum weights = omega (
      arith,
      sum_of_map part (sequences_of h),
      at_most_sum part h.first h.actions t is_t.0 is_t.1,
      some_part (regret_of regrets t) positive,
    ) in
    let inside : i < h.actions = omega (arith, is_s.0, is_s.1) in
    let at : h.first + i ≡ s = omega (arith, is_s.0) in
    let zero' : slice_index weights i ≡ 0 = get_or-map-range_with_len part h.first h.actions i s 0 inside at ∙ no_part (regret_of regrets s) none in
    sym (get_or-map-range_with_len (λ s. slice_index (play_of sets regrets) s) h.first h.actions i s 0 inside at)
    ∙ ap (λ xs. get_or xs i 0) ((plays_each_set sets regrets).each_set k d below)
    ∙ no_weight_no_share units weights i (omega (arith, long, inside)) some zero'

-- the rules of a play deal all
play_rules_whole : (play : List ℕ) (first : ℕ) (sets : List InformationSet) → All IsInOrder (placed_from first sets)
    → AllZip DealsWhole sets (map (play_rule play) (placed_from first sets))
play_rules_whole play first [] order = tt
play_rules_whole play first (h ∷ hs) order =
    let here : PlacedSet = record { first = first; before = h.before; actions = h.actions } in
    let rest : List PlacedSet = placed_from (first + h.actions) hs in
    let weights : List ℕ = map (λ s. slice_index play s) (sequences_of here) in
    let long : length weights ≡ h.actions = length-map-range_with_len (λ s. slice_index play s) first h.actions in
    let some : 1 ≤ length weights = omega (arith, long, (All-head IsInOrder here rest order).0) in (
      record { each_action = λ n. length-shares n weights ∙ long; adds_up = λ n. shares_whole n weights some },
      play_rules_whole play (first + h.actions) hs (All-tail IsInOrder here rest order),
    )

-- dealing the root by a play, set after set, gives a plan of that root
pub plays_deal_plans : PlaysDealPlans
plays_deal_plans sets play root order some = dealt-is_plan root sets (map (play_rule play) (placed sets)) some order (play_rules_whole play 1 sets order)

-- at each set the rule's numbers
dealt_by_rule : (play : List ℕ) (first : ℕ) (x : List ℕ) (sets : List InformationSet) → length x ≡ first
    → All IsInOrder (placed_from first sets)
    → All (λ h. map (λ s. slice_index (dealt_onto x sets (map (play_rule play) (placed_from first sets))) s) (sequences_of h)
    ≡ play_rule play h (slice_index (dealt_onto x sets (map (play_rule play) (placed_from first sets))) h.before)) (placed_from first sets)
dealt_by_rule play first x [] e order = All-nil (λ h. map (λ s. slice_index x s) (sequences_of h) ≡ play_rule play h (slice_index x h.before))
dealt_by_rule play first x (h ∷ hs) e order =
    let here : PlacedSet = record { first = first; before = h.before; actions = h.actions } in
    let rest : List PlacedSet = placed_from (first + h.actions) hs in
    let rules : List (ℕ → List ℕ) = map (play_rule play) rest in
    let n : ℕ = slice_index x h.before in
    let block : List ℕ = play_rule play here n in
    let x' : List ℕ = x ++ block in
    let r : List ℕ = dealt_onto x' hs rules in
    let long : length block ≡ h.actions = length-shares n (map (λ s. slice_index play s) (sequences_of here))
    ∙ length-map-range_with_len (λ s. slice_index play s) first h.actions in
    let longer : length x' ≡ first + h.actions = omega (arith, length-append x block, long) in
    let order' = All-tail IsInOrder here rest order in
    let before : h.before < first = (All-head IsInOrder here rest order).1 in
    let later : IsDealt (first + h.actions) x' hs r = dealt_onto-is_dealt (first + h.actions) x' hs rules longer order'
    (play_rules_whole play (first + h.actions) hs order') in
    let stays : slice_index r h.before ≡ n = later.kept h.before (omega arith) ∙ get_or_append_left x block 0 h.before (omega arith) in
    let at_here : map (λ s. slice_index r s) (sequences_of here) ≡ play_rule play here (slice_index r h.before) =
    map-range_same (λ s. slice_index r s) (λ s. slice_index x' s) first h.actions (λ s low high. later.kept s high)
    ∙ ap (λ k. map (λ s. slice_index x' s) (range_with_len first k)) (sym long)
    ∙ ap (λ w. map (λ s. slice_index w s) (range_with_len first (length block))) (ap (λ b. x ++ b) (sym (append-nil block)))
    ∙ map-block x block [] first 0 e
    ∙ ap (play_rule play here) (sym stays) in
    All-cons (λ h'. map (λ s. slice_index r s) (sequences_of h') ≡ play_rule play h' (slice_index r h'.before)) here rest at_here
    (dealt_by_rule play (first + h.actions) x' hs longer order')

-- at each set the number of the sequence before it is split by the shares of the set's play
pub plays_deal_by_shares : PlaysDealByShares
plays_deal_by_shares sets play root order = dealt_by_rule play 1 (root ∷ []) sets refl order

-- rules at each set, one by one
follows_rules : (play plan : List ℕ) (hs : List PlacedSet)
    → All (λ h. map (λ s. slice_index plan s) (sequences_of h) ≡ play_rule play h (slice_index plan h.before)) hs
    → AllZip (λ h rule. map (λ s. slice_index plan s) (sequences_of h) ≡ rule (slice_index plan h.before)) hs (map (play_rule play) hs)
follows_rules play plan [] all = tt
follows_rules play plan (h ∷ hs) all = (
  All-head (λ h. map (λ s. slice_index plan s) (sequences_of h) ≡ play_rule play h (slice_index plan h.before)) h hs all,
  follows_rules play plan hs (All-tail (λ h. map (λ s. slice_index plan s) (sequences_of h) ≡ play_rule play h (slice_index plan h.before)) h hs all),
)

-- a plan that is split at each set by the shares of a play is the one that the play deals
pub plans_of_plays_are_unique : PlansOfPlaysAreUnique
plans_of_plays_are_unique sets play root plan order is =
    dealt-only sets root (map (play_rule play) (placed sets)) plan order (play_rules_whole play 1 sets order) is.is_plan
    (follows_rules play plan (placed sets) is.each_set)
