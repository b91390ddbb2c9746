-- The nodes around another one of a path, from their steps and their numbers.
use Rattle.std.specs.Prelude.{if◌then◌else◌, List, [], ◌∷◌}
use Rattle.xg_scale.specs.declared.outer.StepOnPath.{StepOnPath}
use Rattle.xg_scale.specs.declared.path.NodeOnPath.{NodeOnPath}
use Rattle.xg_scale.specs.declared.path.PathNumbers.{PathNumbers}

abbrev pub node_of_step : StepOnPath → PathNumbers → NodeOnPath
node_of_step step numbers = record { chance_set = step.chance_set; action = step.action; numbers = numbers }

-- the numbers behind those that go, and the others behind these
abbrev pub numbers_after : PathNumbers → List PathNumbers → PathNumbers
numbers_after numbers [] = numbers
numbers_after numbers (next ∷ others) = next

abbrev pub others_after : List PathNumbers → List PathNumbers
others_after [] = []
others_after (next ∷ others) = others

-- the nodes of these steps, where the first has these numbers, and those behind a step with new ones have the next
-- further ones
abbrev pub nodes_around : List StepOnPath → PathNumbers → List PathNumbers → List NodeOnPath
nodes_around [] numbers further = []
nodes_around (step ∷ steps) numbers further =
    node_of_step step numbers
    ∷ (if step.is_new then nodes_around steps (numbers_after numbers further) (others_after further) else nodes_around
    steps numbers further)
