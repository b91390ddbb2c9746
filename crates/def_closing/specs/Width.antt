-- How far apart the bounds of the sums of plans can be after some rounds, from numbers of the game alone (Zinkevich,
-- Johanson, Bowling and Piccione 2007, for plays and plans in whole numbers).
--     root_up n                             the least number whose square is at least n
--     IsSpread player form spread           in no round are actions of a set worth further apart than its spread
--     size_after, gap_at, form_spread       spreads that every form has
--     regret_bound last root spread h       what bounds each regret of a set after some rounds
--     width_bound, plus_width_bound         what bounds how far apart both sums of plans are then
--     closing_width, plus_closing_width     the same by the spreads that every form has
--     AreEndsWithin, IsLineWithin           the ends of a bracket, and of a line of its trace, are within a width
use Rattle.std.specs.Prelude.{ℕ, zero, suc, ◌+◌, ◌-◌, ◌*◌, ◌/◌, min, max, nat_le, ◌==◌, if◌then◌else◌, List, [], ◌∷◌}
use Rattle.std.specs.Prelude.{ℤ, pos, ◌+ℤ◌, ◌-ℤ◌, ◌*ℤ◌, ◌≤ℤ◌, unsigned_abs, filter, map, All}
use Rattle.def_sums.specs.Sum.{sum_over, nat_sum_over}
use Rattle.def_tree.specs.declared.Player.{Player}
use Rattle.def_tree.specs.declared.Player.TheVariants.{One, Two}
use Rattle.def_tree.specs.Opponent.{opponent}
use Rattle.def_plan.specs.Form.{InformationSet, PlacedSet, placed, sequences_of}
use Rattle.def_plan.specs.Form.{Leaf, leaf_sequence, SequenceForm, player_sets}
use Rattle.def_plan.specs.Plan.{IsPlan}
use Rattle.def_plan.specs.Payoff.{worth, pay}
use Rattle.def_reply.specs.Reply.{best_of, best_reply, total}
use Rattle.def_reply.specs.Bracket.{BracketEnds}
use Rattle.def_reply.specs.declared.TraceLine.{TraceLine}
use Rattle.def_round.specs.Play.{units, positive_part, IsSequenceOf, GivesAllUnits}
use Rattle.def_round.specs.Round.{utility, own_sum, round_values}
use Rattle.def_plus.specs.Weights.{total_weight}

-- ---- spreads

-- the least number whose square is at least n
abbrev pub root_up : ℕ → ℕ
root_up zero = 0
root_up (suc n) = let r = root_up n in if nat_le (suc n) (r * r) then r else (r + 1)

-- in a round against a plan of a root, no two actions of a set are worth further apart than the root times the set's
-- spread
abbrev pub AreWithinSpread : ℕ → (PlacedSet → ℕ) → List InformationSet → (ℕ → ℤ) → List ℕ → Type 0
AreWithinSpread root spread sets sums play =
    let worths : ℕ → ℤ = worth sums (placed sets) (round_values sums play sets) in
    All (λ h. (s t : ℕ) → IsSequenceOf h s → IsSequenceOf h t → worths s ≤ℤ (worths t +ℤ pos (root * spread h)))
    (placed sets)

-- so it is in every round, whatever is played and whatever the other player's plan is
abbrev pub IsSpread : Player → SequenceForm → (PlacedSet → ℕ) → Type 0
IsSpread player form spread = (root : ℕ) (play plan : List ℕ) → GivesAllUnits play (player_sets form player)
    → IsPlan (player_sets form (opponent player)) root plan
    → AreWithinSpread root spread (player_sets form player) (own_sum player form.leaves plan) play

-- no two plans pay less than low, and none more than high, each over both roots
pub record PaysWithin (form : SequenceForm) (low high : ℤ) : Type 0 where
  pub at_least : (root_one root_two : ℕ) (plan_one plan_two : List ℕ) → IsPlan form.sets_one root_one plan_one
      → IsPlan form.sets_two root_two plan_two
      → (pos (root_one * root_two) *ℤ low) ≤ℤ pay form.leaves plan_one plan_two
  pub at_most : (root_one root_two : ℕ) (plan_one plan_two : List ℕ) → IsPlan form.sets_one root_one plan_one
      → IsPlan form.sets_two root_two plan_two
      → pay form.leaves plan_one plan_two ≤ℤ (pos (root_one * root_two) *ℤ high)

-- the sizes of the weights of the leaves at a sequence together, and of all leaves at it or after it: of those that are
-- reached by the sets directly after the sequence, too
abbrev pub size_at : Player → List Leaf → ℕ → ℕ
size_at player leaves s = nat_sum_over (λ z. unsigned_abs z.weight) (filter (λ z. leaf_sequence player z == s) leaves)

abbrev pub size_from : (ℕ → ℕ) → List PlacedSet → ℕ → ℕ
size_from sizes [] s = sizes s
size_from sizes (h ∷ hs) s =
    (if h.before == s then nat_sum_over (size_from sizes hs) (sequences_of h) else 0) + size_from sizes hs s

-- the sizes of the weights of all leaves after a set
abbrev pub size_after : Player → SequenceForm → PlacedSet → ℕ
size_after player form h =
    nat_sum_over (size_from (size_at player form.leaves) (placed (player_sets form player))) (sequences_of h)

-- what the leaves at a sequence of the player and a sequence of the other one are worth to the player together
abbrev pub weight_at : Player → List Leaf → ℕ → ℕ → ℤ
weight_at player leaves s o =
    let own : List Leaf = filter (λ z. leaf_sequence player z == s) leaves in
    utility player (sum_over (λ z. z.weight) (filter (λ z. leaf_sequence (opponent player) z == o) own))

-- the most that the leaves at a sequence or after it can be worth at each sequence of the other player, where at each
-- set after it the player may take another action for each of the other player's; and the least
abbrev pub most_from : Player → (ℕ → ℕ → ℤ) → List PlacedSet → ℕ → ℕ → ℤ
most_from best weights [] s o = weights s o
most_from best weights (h ∷ hs) s o =
    most_from best weights hs s o
    +ℤ (if h.before == s then best_of best (map (λ t. most_from best weights hs t o) (sequences_of h)) else pos 0)

-- the most that one action can be worth more than another, against the best that the other player can do for it
abbrev pub gap_of_actions : Player → SequenceForm → ℕ → ℕ → ℤ
gap_of_actions player form s t =
    let sets : List PlacedSet = placed (player_sets form player) in
    let others : List InformationSet = player_sets form (opponent player) in
    let weights : ℕ → ℕ → ℤ = weight_at player form.leaves in
    let sums : ℕ → ℤ = λ o. most_from One weights sets s o -ℤ most_from Two weights sets t o in
    total sums others (best_reply One sums others)

-- it is 0 where it can't be worth more, or is the same
abbrev pub gap_between : Player → SequenceForm → ℕ → ℕ → ℕ
gap_between player form s t = if s == t then 0 else positive_part (gap_of_actions player form s t)

-- the greatest of some numbers, 0 where there is none
abbrev pub greatest : (ℕ → ℕ) → List ℕ → ℕ
greatest f [] = 0
greatest f (x ∷ xs) = max (f x) (greatest f xs)

-- the greatest of these over a set's actions
abbrev pub gap_at : Player → SequenceForm → PlacedSet → ℕ
gap_at player form h = greatest (λ s. greatest (λ t. gap_between player form s t) (sequences_of h)) (sequences_of h)

-- a spread that every game has: at each set the lesser of the gap and the sizes of the weights of the leaves after it
abbrev pub form_spread : Player → SequenceForm → PlacedSet → ℕ
form_spread player form h = min (gap_at player form h) (size_after player form h)

-- ---- widths

-- how far apart a set's values are together from one of them: the spread for each further action
abbrev pub spread_sum : (PlacedSet → ℕ) → PlacedSet → ℕ
spread_sum spread h = (h.actions - 1) * spread h

-- what the roundings of a set's value and play can add in a round for each unit of regret; where there is one action
-- alone, nothing is rounded
abbrev pub drift : ℕ → (PlacedSet → ℕ) → PlacedSet → ℕ
drift root spread h = if nat_le h.actions 1 then 0 else ((root * spread_sum spread h + (units + units - 1)) / units)

-- a regret of the set after some rounds is at most this
abbrev pub regret_bound : ℕ → ℕ → (PlacedSet → ℕ) → PlacedSet → ℕ
regret_bound last root spread h =
    root * spread h * root_up (last * (h.actions - 1)) + last * (drift root spread h * root_up h.actions)

-- what the dealing of a player's plans can cost in a round
abbrev pub dealing_cost : (PlacedSet → ℕ) → List InformationSet → ℕ
dealing_cost spread sets = nat_sum_over (spread_sum spread) (placed sets)

-- what a player's regrets and dealt plans can add to the width: for each set the bound of its regrets, and in each
-- round what the dealing costs
abbrev pub player_width : ℕ → ℕ → (PlacedSet → ℕ) → List InformationSet → ℕ
player_width last root spread sets =
    nat_sum_over (regret_bound last root spread) (placed sets) + last * dealing_cost spread sets

-- and what both do together
abbrev pub width_bound : SequenceForm → ℕ → (PlacedSet → ℕ) → (PlacedSet → ℕ) → ℕ → ℕ
width_bound form root spread_one spread_two last =
    player_width last root spread_one form.sets_one + player_width last root spread_two form.sets_two

-- the same for rounds of CFR+ (Tammelin, Burch, Johanson and Bowling 2015), where round k weighs k: the bounds of
-- regrets count as many times as there are rounds, and what the dealing costs as many times as the rounds weigh
abbrev pub plus_player_width : ℕ → ℕ → (PlacedSet → ℕ) → List InformationSet → ℕ
plus_player_width last root spread sets =
    last * nat_sum_over (regret_bound last root spread) (placed sets) + total_weight last * dealing_cost spread sets

abbrev pub plus_width_bound : SequenceForm → ℕ → (PlacedSet → ℕ) → (PlacedSet → ℕ) → ℕ → ℕ
plus_width_bound form root spread_one spread_two last =
    plus_player_width last root spread_one form.sets_one + plus_player_width last root spread_two form.sets_two

-- the width by the spreads that every game has
abbrev pub closing_width : SequenceForm → ℕ → ℕ → ℕ
closing_width form root last = width_bound form root (form_spread One form) (form_spread Two form) last

abbrev pub plus_closing_width : SequenceForm → ℕ → ℕ → ℕ
plus_closing_width form root last = plus_width_bound form root (form_spread One form) (form_spread Two form) last

-- tighter, where a player's own choices exclude each other: the bounds of the sets directly after a sequence, together;
-- the most of them that a plan of root 1 reaches, which is a best reply's total; and what both do together
abbrev pub bounds_after : (PlacedSet → ℕ) → List PlacedSet → ℕ → ℤ
bounds_after bound sets s = sum_over (λ h. pos (bound h)) (filter (λ h. h.before == s) sets)

abbrev pub most_reached : (PlacedSet → ℕ) → List InformationSet → ℤ
most_reached bound sets =
    let sums : ℕ → ℤ = bounds_after bound (placed sets) in total sums sets (best_reply One sums sets)

abbrev pub reached_width : SequenceForm → ℕ → (PlacedSet → ℕ) → (PlacedSet → ℕ) → ℕ → ℕ
reached_width form root spread_one spread_two last =
    let one : ℤ = most_reached (regret_bound last root spread_one) form.sets_one in
    let two : ℤ = most_reached (regret_bound last root spread_two) form.sets_two in
    positive_part (one +ℤ two)
    + last * (dealing_cost spread_one form.sets_one + dealing_cost spread_two form.sets_two)

-- what of a player's width shrinks as rounds go on, and what the roundings leave
abbrev pub shrinking : ℕ → (PlacedSet → ℕ) → List InformationSet → ℕ
shrinking root spread sets = nat_sum_over (λ h. root * spread h * root_up (h.actions - 1)) (placed sets)

abbrev pub lasting : ℕ → (PlacedSet → ℕ) → List InformationSet → ℕ
lasting root spread sets =
    nat_sum_over (λ h. drift root spread h * root_up h.actions + spread_sum spread h) (placed sets)

-- ---- what is within a width

-- a low end after one round and a high end after another are no further apart than the width after a third one, each
-- over what its rounds weigh
abbrev pub AreNoFurtherApart : (ℕ → ℕ) → ℕ → ℕ → ℕ → ℤ → ℕ → ℤ → Type 0
AreNoFurtherApart weight round width low_round low high_round high =
    (pos (weight round) *ℤ ((pos (weight low_round) *ℤ high) -ℤ (pos (weight high_round) *ℤ low)))
    ≤ℤ pos (weight low_round * weight high_round * width)

-- the ends of a bracket are no further apart than the width after a round
abbrev pub AreEndsWithin : (ℕ → ℕ) → ℕ → ℕ → BracketEnds → Type 0
AreEndsWithin weight round width ends =
    AreNoFurtherApart weight round width ends.lower.round ends.lower.low ends.upper.round ends.upper.high

-- the ends of a line of a trace are no further apart than the width after its round
abbrev pub IsLineWithin : (ℕ → ℕ) → (ℕ → ℕ) → TraceLine → Type 0
IsLineWithin weight width line =
    AreNoFurtherApart weight line.round (width line.round) line.low_round line.low line.high_round line.high
