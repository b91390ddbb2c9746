-- A small game in which both players have sets one below the other, and where several rounds of regret matching leave
-- two unequal positive regrets at sets of both: its sequence form, where the unit is 3.
use Rattle.std.specs.Prelude.{ℕ, pos, negsuc, [], ◌∷◌}
use Rattle.def_plan.specs.Form.{InformationSet, SequenceForm, weighted}

-- a set by the sequence before it and the number of its actions
abbrev pub set_after : ℕ → ℕ → InformationSet
set_after before actions = record { before = before; actions = actions }

-- its sequence form, where the unit is 3
abbrev pub hidden : SequenceForm
hidden = record {
  sets_one = set_after 0 3 ∷ set_after 1 2 ∷ set_after 2 2 ∷ [];
  sets_two = set_after 0 3 ∷ set_after 1 2 ∷ set_after 2 2 ∷ [];
  leaves =
      weighted 4 4 (negsuc 1) ∷ weighted 4 5 (negsuc 2) ∷ weighted 5 4 (pos 0) ∷ weighted 5 5 (negsuc 2) ∷
      weighted 1 2 (pos 3) ∷ weighted 1 3 (pos 3) ∷ weighted 2 1 (pos 3) ∷ weighted 2 2 (pos 2) ∷
      weighted 2 3 (negsuc 0) ∷ weighted 3 1 (negsuc 2) ∷ weighted 3 2 (pos 3) ∷ weighted 3 3 (negsuc 3) ∷
      weighted 1 1 (pos 4) ∷ weighted 1 2 (pos 4) ∷ weighted 1 3 (negsuc 7) ∷ weighted 2 1 (pos 6) ∷
      weighted 6 6 (pos 0) ∷ weighted 6 7 (negsuc 1) ∷ weighted 7 6 (negsuc 5) ∷ weighted 7 7 (pos 2) ∷
      weighted 2 3 (negsuc 7) ∷ weighted 3 1 (negsuc 7) ∷ weighted 3 2 (negsuc 7) ∷ weighted 3 3 (pos 8) ∷ [];
}
