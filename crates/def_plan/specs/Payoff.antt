-- What a pair of plans pays, in weights of the leaves (von Stengel 1996).
use Rattle.std.specs.Prelude.{◌≡◌, ℕ, ◌*◌, ◌<◌, List, ℤ, pos, ◌+ℤ◌, ◌*ℤ◌, ◌≤ℤ◌, slice_index, unsigned_abs, All, filter}
use Rattle.std.specs.Prelude.{zip, ◌==◌}
use Rattle.std.specs.List.{AllZip}
use Rattle.def_tree.specs.declared.Player.{Player}
use Rattle.def_tree.specs.declared.Player.TheVariants.{One, Two}
use Rattle.def_tree.specs.Opponent.{opponent}
use Rattle.def_sums.specs.Sum.{sum_over, nat_sum_over}
use Rattle.def_plan.specs.Form.{InformationSet, PlacedSet, placed, sequences_of, sequence_count, sequences, Leaf}
use Rattle.def_plan.specs.Form.{leaf_sequence}

-- the payoff of player one: over all leaves the weight times both players' numbers
abbrev pub pay : List Leaf → List ℕ → List ℕ → ℤ
pay leaves plan_one plan_two =
    sum_over (λ z. z.weight *ℤ pos (slice_index plan_one z.sequence_one * slice_index plan_two z.sequence_two)) leaves

-- the leaf sum of a player's sequence against a plan of the other player, in player one's payoff
abbrev pub leaf_sum : Player → List Leaf → List ℕ → ℕ → ℤ
leaf_sum player leaves against s =
    sum_over (λ z. z.weight *ℤ pos (slice_index against (leaf_sequence (opponent player) z)))
    (filter (λ z. leaf_sequence player z == s) leaves)

-- two numbers for each sequence that are the same at a player's own sequences
abbrev pub AgreeOn : List InformationSet → (ℕ → ℤ) → (ℕ → ℤ) → Type 0
AgreeOn sets sums other = (s : ℕ) → s < sequence_count sets → sums s ≡ other s

-- what a plan gains from a number for each sequence, as the leaf sums are
abbrev pub gain : (ℕ → ℤ) → List InformationSet → List ℕ → ℤ
gain sums sets plan = sum_over (λ s. sums s *ℤ pos (slice_index plan s)) (sequences sets)

-- the values of the sets directly after a sequence
abbrev pub values_after : List PlacedSet → List ℤ → ℕ → ℤ
values_after sets values s = sum_over (λ p. p.1) (filter (λ p. p.0.before == s) (zip sets values))

-- the worth of a sequence: its leaf sum and the values of the sets directly after it
abbrev pub worth : (ℕ → ℤ) → List PlacedSet → List ℤ → ℕ → ℤ
worth sums sets values s = sums s +ℤ values_after sets values s

-- a is no better for a player than b: player one wants the greater payoff, player two the smaller one
abbrev pub IsNoBetter : Player → ℤ → ℤ → Type 0
IsNoBetter One a b = a ≤ℤ b
IsNoBetter Two a b = b ≤ℤ a

-- at no set is an action worth more to the player than the set's value
abbrev pub NoActionIsBetter : Player → (ℕ → ℤ) → List InformationSet → List ℤ → Type 0
NoActionIsBetter player sums sets values =
    AllZip (λ h value. All (λ s. IsNoBetter player (worth sums (placed sets) values s) value) (sequences_of h))
    (placed sets) values

-- where the plan gives a sequence of a set anything, its worth is the set's value
abbrev pub PlaysOnlyTight : (ℕ → ℤ) → List InformationSet → List ℤ → List ℕ → Type 0
PlaysOnlyTight sums sets values plan =
    AllZip (λ h value. All (λ s. 0 < slice_index plan s → worth sums (placed sets) values s ≡ value) (sequences_of h))
    (placed sets) values

-- the sizes of all weights together
abbrev pub mass_of : List Leaf → ℕ
mass_of leaves = nat_sum_over (λ z. unsigned_abs z.weight) leaves
