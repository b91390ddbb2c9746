-- What a fault of recall says of a tree.
use Rattle.std.specs.Prelude.{◌≡◌, ◌-◌, length, slice_index_or, Err}
use Rattle.def_tree.specs.Tree.{Forest}
use Rattle.def_game_paths.specs.Paths.{Visit, visits}
use Rattle.def_game_paths.specs.Recall.{IsFirstBreak}
use Rattle.def_sequence_form.specs.Sets.{sets_or_break}
use Rattle.xg_sets.specs.declared.building.RecallFault.{RecallFault}
use Rattle.xg_sets.specs.declared.building.RecallFault.TheVariants.{NotRecall, NoMemory}

-- the tree's break of recall is at this node, whose set's first node is `earlier`
abbrev pub TellsBreakOf : Forest → RecallFault → Type 0
TellsBreakOf tree (NotRecall node earlier) = sets_or_break tree ≡ Err (record { node = node; earlier = earlier })
TellsBreakOf tree NoMemory = Unit {0}

-- no node before this one has another past than its set's first node, and this one has another than `earlier`,
-- its set's first node
abbrev pub IsFirstBreakOf : Forest → RecallFault → Type 0
IsFirstBreakOf tree (NotRecall node earlier) =
    (d : Visit)
    → IsFirstBreak (λ k. slice_index_or (visits tree) (k - 1) d) (length (visits tree))
    (record { node = node; earlier = earlier })
IsFirstBreakOf tree NoMemory = Unit {0}
