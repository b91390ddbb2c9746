-- The walk by the links of nodes. A node is entered; where it has no child it is left, and with it each node above
-- whose last child is left.
use Rattle.std.specs.Prelude.{ℕ, ◌+◌, zero, suc, if◌then◌else◌, nat_eq, List, [], ◌∷◌, ◌++◌, length}
use Rattle.def_tree.specs.declared.Node.{Node}
use Rattle.def_tree.specs.Events.{Event, Enter, Leave}
use Rattle.xg_tree.specs.declared.links.Links.{Links}
use Rattle.xg_tree.specs.Linked.{links_at}

-- the node that is left after node k and before any other is entered: its parent after a last child, or none
abbrev pub left_after : List Links → ℕ → ℕ
left_after links k = if nat_eq (links_at links k).next_sibling 0 then (links_at links k).parent else 0

-- node k is left, and those that are left with it; there are at most so many
abbrev pub leaving_from : ℕ → List Links → ℕ → List Event
leaving_from zero links k = []
leaving_from (suc most) links zero = []
leaving_from (suc most) links (suc i) = Leave (suc i) ∷ leaving_from most links (left_after links (suc i))

abbrev pub leaving : List Links → ℕ → List Event
leaving links k = leaving_from (length links) links k

-- node k is entered, and left where it has no child
abbrev pub visit_events : List Links → ℕ → Node → List Event
visit_events links k node = Enter k node ∷ (if nat_eq (links_at links k).first_child 0 then leaving links k else [])

-- the nodes from node k on are visited
abbrev pub walk_events_from : List Links → ℕ → List Node → List Event
walk_events_from links k [] = []
walk_events_from links k (node ∷ rest) = visit_events links k node ++ walk_events_from links (k + 1) rest
