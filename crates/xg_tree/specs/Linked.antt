-- The links that a `Builder` keeps of its nodes, and those that a `Tree` keeps. Nodes are numbered from 1, and 0 stands
-- for none.
use Rattle.std.specs.Prelude.{ℕ, ◌+◌, ◌-◌, ◌<◌, ◌≤◌, zero, suc, if◌then◌else◌, nat_eq, Option, Some, None, List, []}
use Rattle.std.specs.Prelude.{◌∷◌, ◌++◌, length, slice_index_or, slice_set}
use Rattle.def_tree.specs.declared.Node.{Node}
use Rattle.def_tree.specs.Tree.{Forest, bare, grown, node_count}
use Rattle.xg_tree.specs.declared.links.Links.{Links}
use Rattle.xg_tree.specs.declared.links.NodePlace.{NodePlace}

abbrev pub link_numbers : ℕ → ℕ → ℕ → Links
link_numbers parent first_child next_sibling = record {
  parent = parent;
  first_child = first_child;
  next_sibling = next_sibling;
}

abbrev pub place_numbers : ℕ → ℕ → NodePlace
place_numbers parent previous = record { parent = parent; previous = previous }

-- the links of node k
abbrev pub links_at : List Links → ℕ → Links
links_at links zero = link_numbers 0 0 0
links_at links (suc i) = slice_index_or links i (link_numbers 0 0 0)

-- with another number as the next sibling of node k
abbrev pub with_next : List Links → ℕ → ℕ → List Links
with_next links zero next = links
with_next links (suc i) next = slice_set links i (record (links_at links (suc i)) { next_sibling = next })

-- a node with children to come holds as its next sibling how many: from a node whose last child is the previous one
-- upwards, the first that has some, and its last child
abbrev pub place_from : ℕ → List Links → ℕ → ℕ → NodePlace
place_from zero links parent previous = place_numbers parent previous
place_from (suc most) links zero previous = place_numbers 0 previous
place_from (suc most) links (suc i) previous =
    if nat_eq (links_at links (suc i)).next_sibling 0 then place_from most links (links_at links (suc i)).parent (suc i)
    else place_numbers (suc i) previous

-- where the next node stands
abbrev pub next_place : List Links → NodePlace
next_place links = place_from (length links) links (length links) 0

abbrev pub first_below : ℕ → ℕ → ℕ
first_below k zero = 0
first_below k (suc _) = k + 1

abbrev pub linked_at : List Links → NodePlace → ℕ → List Links
linked_at links place children =
    with_next (with_next links place.previous (length links + 1)) place.parent
    ((links_at links place.parent).next_sibling - 1)
    ++ link_numbers place.parent (first_below (length links + 1) children) children ∷ []

-- with one node more
abbrev pub linked_next : List Links → ℕ → List Links
linked_next links children = linked_at links (next_place links) children

abbrev pub linked_on : List Links → List Node → List Links
linked_on links [] = links
linked_on links (node ∷ rest) = linked_on (linked_next links node.children) rest

abbrev pub linked : List Node → List Links
linked nodes = linked_on [] nodes

-- each node comes after its parent
abbrev pub ComeAfterParents : List Links → Type 0
ComeAfterParents links = (k : ℕ) → 1 ≤ k → (links_at links k).parent < k

-- the first of the top nodes
abbrev pub first_root : ℕ → Forest → ℕ
first_root k bare = 0
first_root k (grown _ _ _) = k

-- the links of the nodes of trees below a parent
abbrev pub stored_from : ℕ → ℕ → Forest → List Links
stored_from parent k bare = []
stored_from parent k (grown _ below beside) =
    link_numbers parent (first_root (k + 1) below) (first_root (k + 1 + node_count below) beside)
    ∷ (stored_from k (k + 1) below ++ stored_from parent (k + 1 + node_count below) beside)

abbrev pub stored : Forest → List Links
stored tree = stored_from 0 1 tree

-- the node that a number stands for
abbrev pub numbered : ℕ → Option ℕ
numbered zero = None
numbered (suc i) = Some (suc i)
