-- What leaves that follow one another on a thread bring to their sequence.
use Rattle.std.specs.Prelude.{ℕ, ◌-◌, ℤ, pos, ◌+ℤ◌, List, take, drop, slice_index_or}
use Rattle.def_tree.specs.declared.Player.{Player}
use Rattle.def_plan.specs.Form.{Leaf}
use Rattle.def_plan.specs.Payoff.{leaf_sum}
use Rattle.def_plan.specs.Threads.{paid_at_leaf, sequence_of_leaf}

-- leaf z, which is numbered from 1
abbrev pub leaf_numbered : List Leaf → ℕ → Leaf
leaf_numbered leaves z = slice_index_or leaves (z - 1) (record { sequence_one = 0; sequence_two = 0; weight = pos 0 })

-- the leaves after leaf z, up to the last of a job
abbrev pub leaves_after : List Leaf → ℕ → ℕ → List Leaf
leaves_after leaves z last = take (last - z) (drop z leaves)

-- what leaf z and those after it bring to the player's sequence at z
abbrev pub thread_sum : Player → List Leaf → List ℕ → ℕ → ℕ → ℤ
thread_sum player leaves against z last =
    paid_at_leaf player against (leaf_numbered leaves z)
    +ℤ leaf_sum player (leaves_after leaves z last) against (sequence_of_leaf player z leaves)
