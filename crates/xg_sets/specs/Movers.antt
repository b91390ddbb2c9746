-- The sequences at the next children of the nodes on a path, of which the innermost comes first.
use Rattle.std.specs.Prelude.{◌≡◌, ◌+◌, ◌^◌, ◌<◌, List, [], ◌∷◌}
use Rattle.def_tree.specs.declared.Kind.{Kind}
use Rattle.def_tree.specs.declared.Kind.TheVariants.{Chance, One, Two, Leaf}
use Rattle.xg_sets.specs.declared.movers.Mover.{Mover}
use Rattle.xg_sets.specs.declared.movers.Sequences.{Sequences}

-- how far the sequences go on from child to child below a node at which this kind moves
abbrev pub step_of : Kind → Sequences
step_of Chance = record { one = 0; two = 0 }
step_of One = record { one = 1; two = 0 }
step_of Two = record { one = 0; two = 1 }
step_of Leaf = record { one = 0; two = 0 }

abbrev pub gone_on : Sequences → Sequences → Sequences
gone_on at step = record { one = at.one + step.one; two = at.two + step.two }

-- the sequences at the child after the one with these, below a node at which this kind moves
abbrev pub sequences_after : Kind → Sequences → Sequences
sequences_after kind at = gone_on at (step_of kind)

-- the mover at its next child
abbrev pub after : Mover → Mover
after mover = record { next = gone_on mover.next mover.step; step = mover.step }

-- what is around the whole tree
abbrev pub no_mover : Mover
no_mover = record { next = record { one = 0; two = 0 }; step = step_of Chance }

-- a mover is around, and its sequences leave room for the next numbers
abbrev pub HasMoverAround : List Mover → Type 0
HasMoverAround [] = ⊥
HasMoverAround (around ∷ further) = (around.next.one + around.step.one < 2 ^ 32)
    × (around.next.two + around.step.two < 2 ^ 32)

-- of these movers the innermost goes on at its next child, and the others stay around it
abbrev pub GoesBackTo : List Mover → Mover → List Mover → Type 0
GoesBackTo [] innermost outer = ⊥
GoesBackTo (around ∷ further) innermost outer = (innermost ≡ after around) × (outer ≡ further)
