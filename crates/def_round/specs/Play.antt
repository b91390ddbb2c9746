-- Regret matching in whole units (Zinkevich, Johanson, Bowling and Piccione 2007): at each set an action is played in
-- proportion to the positive part of its regret. Regrets and plays are lists with a number for each sequence; the
-- empty sequence, at which no action ends, has 0.
use Rattle.std.specs.Prelude.{◌≡◌, ℕ, ◌+◌, ◌≤◌, ◌<◌, ℤ, pos, negsuc, List, ◌∷◌, map, All, flat_map, slice_index}
use Rattle.std.specs.Prelude.{slice_index_or}
use Rattle.def_sums.specs.Sum.{nat_sum_over}
use Rattle.def_plan.specs.Form.{InformationSet, PlacedSet, placed, sequences_of}
use Rattle.def_plan.specs.Plan.{dealt}
use Rattle.def_round.specs.Shares.{shares}
use Rattle.def_round.specs.declared.TheConstants.{UNITS}

-- a set is played in units of 1 / 65,536
abbrev pub units : ℕ
units = UNITS

abbrev pub positive_part : ℤ → ℕ
positive_part (pos n) = n
positive_part (negsuc n) = 0

abbrev pub regret_of : List ℤ → ℕ → ℤ
regret_of regrets s = slice_index_or regrets s (pos 0)

-- a sequence that ends at a set
abbrev pub IsSequenceOf : PlacedSet → ℕ → Type 0
IsSequenceOf h s = (h.first ≤ s) × (s < h.first + h.actions)

-- the sum of the positive parts of a set's regrets
abbrev pub regret_sum : List ℤ → PlacedSet → ℕ
regret_sum regrets h = nat_sum_over (λ s. positive_part (regret_of regrets s)) (sequences_of h)

-- what a set's actions get of all units
abbrev pub set_play : List ℤ → PlacedSet → List ℕ
set_play regrets h = shares units (map (λ s. positive_part (regret_of regrets s)) (sequences_of h))

-- the play of all sets
abbrev pub play_of : List InformationSet → List ℤ → List ℕ
play_of sets regrets = 0 ∷ flat_map (set_play regrets) (placed sets)

-- at each set the play gives out all units
abbrev pub GivesAllUnits : List ℕ → List InformationSet → Type 0
GivesAllUnits play sets = All (λ h. nat_sum_over (λ s. slice_index play s) (sequences_of h) ≡ units) (placed sets)

-- a number is dealt to a set's actions by shares, with their play as the weights
abbrev pub play_rule : List ℕ → PlacedSet → ℕ → List ℕ
play_rule play h n = shares n (map (λ s. slice_index play s) (sequences_of h))

-- the plan of a play: at each set, in order, the number of the sequence before it is dealt
abbrev pub plan_of_play : List InformationSet → List ℕ → ℕ → List ℕ
plan_of_play sets play root = dealt root sets (map (play_rule play) (placed sets))
