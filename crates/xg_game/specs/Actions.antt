-- The actions of a set by their names and their probabilities.
use Rattle.std.specs.Prelude.{ℕ, ◌≤◌, List, [], ◌∷◌, length, slice_range, All}
use Rattle.def_fraction.specs.Fraction.{Fraction, zero_fraction}
use Rattle.def_file.specs.Content.{Action, action_with}
use Rattle.def_file.specs.Game.{IsSmallFraction}
use Rattle.xg_game.specs.declared.actions.KeptAction.{KeptAction}
use Rattle.xg_game.specs.declared.actions.Span.{Span}

-- an action that has no probability of its own has 0
abbrev pub actions_of : List (List ℕ) → List Fraction → List Action
actions_of [] chances = []
actions_of (name ∷ names) [] = record { name = name; chance = zero_fraction } ∷ actions_of names []
actions_of (name ∷ names) (chance ∷ chances) = record { name = name; chance = chance } ∷ actions_of names chances

-- no more probabilities are kept than names, each in lowest terms and within the limit
pub record KeepsChances (names : List (List ℕ)) (chances : List Fraction) : Type 0 where
  pub count : length chances ≤ length names
  pub small : All IsSmallFraction chances

abbrev pub action_kept : KeptAction → Action
action_kept a = action_with a.name.now a.chance

-- the actions of a set among those of all sets
abbrev pub actions_in : List Action → Span → List Action
actions_in actions span = slice_range actions span.start span.end

abbrev pub SpanIsWithin : ℕ → Span → Type 0
SpanIsWithin size span = (span.start ≤ span.end) × (span.end ≤ size)
