-- Small games as forms, for worked rows.
use Rattle.std.specs.Prelude.{List, [], ◌∷◌, pos}
use Rattle.def_plan.specs.Form.{InformationSet, Leaf, SequenceForm, weighted}

-- one set with three actions
abbrev pub three_actions : List InformationSet
three_actions = record { before = 0; actions = 3 } ∷ []

-- player one chooses between 1 and nothing, and player two never moves
abbrev pub one_mover : SequenceForm
one_mover = record {
  sets_one = record { before = 0; actions = 2 } ∷ [];
  sets_two = [];
  leaves = record { sequence_one = 1; sequence_two = 0; weight = pos 1 }
      ∷ record { sequence_one = 2; sequence_two = 0; weight = pos 0 } ∷ [];
}

-- the leaves of a game in which chance, at the root, either ends it or lets one player or the other begin; who begins
-- may end it too. So there are leaves at every depth, and each player has some at which that player never chose
abbrev pub leaves_at_depths : List Leaf
leaves_at_depths =
    weighted 0 0 (pos 4) ∷ weighted 1 0 (pos 4) ∷ weighted 2 1 (pos 6) ∷ weighted 2 2 (pos 8) ∷ weighted 0 1 (pos 10) ∷
    weighted 3 2 (pos 12) ∷ weighted 4 2 (pos 14) ∷ []
