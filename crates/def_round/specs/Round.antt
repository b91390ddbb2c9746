-- One round of counterfactual regret minimisation (Zinkevich, Johanson, Bowling and Piccione 2007) in fixed point: the
-- counterfactual values of a player's sequences and sets against a plan of the other player,
-- and the regrets that they add.
use Rattle.std.specs.Prelude.{◌≡◌, ℕ, ℤ, pos, neg_ℤ, ◌+ℤ◌, ◌-ℤ◌, ◌*ℤ◌, List, [], ◌∷◌, map, zip, length, All, flat_map}
use Rattle.std.specs.Prelude.{slice_index}
use Rattle.std.specs.List.{AllZip}
use Rattle.def_sums.specs.Sum.{sum_over}
use Rattle.def_sums.specs.Floor.{floor_div}
use Rattle.def_tree.specs.declared.Player.{Player}
use Rattle.def_tree.specs.declared.Player.TheVariants.{One, Two}
use Rattle.def_plan.specs.Form.{InformationSet, PlacedSet, placed, sequences_of, sequence_count, Leaf}
use Rattle.def_plan.specs.Payoff.{leaf_sum, worth}
use Rattle.def_round.specs.Play.{units, regret_of}

-- a payoff of player one, as the player gets it
abbrev pub utility : Player → ℤ → ℤ
utility One payoff = payoff
utility Two payoff = neg_ℤ payoff

-- g(s): what the leaves with the player's sequence s are worth to the player, against the other player's plan
abbrev pub own_sum : Player → List Leaf → List ℕ → ℕ → ℤ
own_sum player leaves against s = utility player (leaf_sum player leaves against s)

-- V(h): what the set is worth under the play, from what its sequences are worth, rounded towards minus infinity
abbrev pub set_value : List ℕ → (ℕ → ℤ) → PlacedSet → ℤ
set_value play worths h = floor_div (sum_over (λ s. pos (slice_index play s) *ℤ worths s) (sequences_of h)) units

-- the equations of one round: v(s) is g(s) and the V of the sets directly after s,
-- and each V(h) is the floor over these v
abbrev pub AreValues : (ℕ → ℤ) → List ℕ → List InformationSet → List ℤ → Type 0
AreValues sums play sets values =
    AllZip (λ h value. value ≡ set_value play (worth sums (placed sets) values) h) (placed sets) values

-- their solution: the values of the sets from one on are that set's value, and the values of the rest
abbrev pub with_value : (ℕ → ℤ) → List ℕ → PlacedSet → List PlacedSet → List ℤ → List ℤ
with_value sums play h rest values = set_value play (worth sums rest values) h ∷ values

abbrev pub values_from : (ℕ → ℤ) → List ℕ → List PlacedSet → List ℤ
values_from sums play [] = []
values_from sums play (h ∷ rest) = with_value sums play h rest (values_from sums play rest)

abbrev pub round_values : (ℕ → ℤ) → List ℕ → List InformationSet → List ℤ
round_values sums play sets = values_from sums play (placed sets)

-- a round adds v(s) - V(h) to the regret of each sequence s of each set h
pub record AddsRegrets (sums : ℕ → ℤ) (sets : List InformationSet) (values : List ℤ)
    (before after : List ℤ) : Type 0 where
  pub all_sequences : length after ≡ sequence_count sets
  pub none_of_empty : regret_of after 0 ≡ pos 0
  pub each_set : AllZip (λ h value. All (λ s. regret_of after s ≡ regret_of before s
      +ℤ (worth sums (placed sets) values s -ℤ value)) (sequences_of h)) (placed sets) values

-- the regrets after a round of a player, by the equations
pub record IsRound (sums : ℕ → ℤ) (play : List ℕ) (sets : List InformationSet) (before after : List ℤ) : Type 0 where
  pub values : List ℤ
  pub are_values : AreValues sums play sets values
  pub adds_regrets : AddsRegrets sums sets values before after

-- the same as a computation
abbrev pub set_regrets : (ℕ → ℤ) → List PlacedSet → List ℤ → List ℤ → PlacedSet → ℤ → List ℤ
set_regrets sums placed_sets values before h value =
    map (λ s. regret_of before s +ℤ (worth sums placed_sets values s -ℤ value)) (sequences_of h)

abbrev pub regrets_with : (ℕ → ℤ) → List PlacedSet → List ℤ → List ℤ → List ℤ
regrets_with sums placed_sets before values =
    pos 0 ∷ flat_map (λ p. set_regrets sums placed_sets values before p.0 p.1) (zip placed_sets values)

abbrev pub regrets_after : (ℕ → ℤ) → List ℕ → List InformationSet → List ℤ → List ℤ
regrets_after sums play sets before = regrets_with sums (placed sets) before (round_values sums play sets)
