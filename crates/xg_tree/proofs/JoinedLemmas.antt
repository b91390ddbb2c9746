-- What the nodes of whole trees make of the links before them.
use Rattle.std.proofs.Common.{◌≡◌, ℕ, zero, suc, ◌+◌, ◌-◌, ◌≤◌, List, [], ◌∷◌, ◌++◌, length, refl, ap, sym, subst, ◌∙◌, arith, append_assoc, append-nil}
use Rattle.std.proofs.Common.{length-append}
use Rattle.def_tree.specs.declared.Node.{Node}
use Rattle.def_tree.specs.Tree.{Forest, bare, grown, prefix, node_count, tree_count, HasItsChildren, IsTree, IsWhole, forest_of}
use Rattle.def_tree.proofs.Forests.{prefix-forest_of}
use Rattle.def_tree.proofs.Lists.{tree_of_whole}
use Rattle.xg_tree.specs.declared.links.Links.{Links}
use Rattle.xg_tree.specs.Linked.{link_numbers, place_numbers, links_at, with_next, place_from, next_place, first_below, linked_at, linked_next, linked_on}
use Rattle.xg_tree.specs.Linked.{linked, ComeAfterParents, first_root, stored_from, stored}
use Rattle.xg_tree.proofs.LinkedLemmas.{place-stop, place-up, links_at-front, links_at-seam, with_next-front, with_next-seam, with_next-twice, next-with_next}
use Rattle.xg_tree.proofs.LinkedLemmas.{length-with_next, linked_on-append, length-stored_from, ComeAfterParents-next, ComeAfterParents-on, none_in_order}

-- the trees stand below the parent, which has so many fewer children to come; the first comes after the previous
-- sibling, and the search for the next place comes by the parent
record HasJoined (links : List Links) (parent previous : ℕ) (trees : Forest) (joined : List Links) : Type 0 where
  is : joined ≡ with_next (with_next links previous (length links + 1)) parent ((links_at links parent).next_sibling - tree_count trees)
      ++ stored_from parent (length links + 1) trees
  last : ℕ
  comes_by : next_place joined ≡ place_from (length joined) joined parent last

record CanJoin (links : List Links) (parent previous : ℕ) (trees : Forest) : Type 0 where
  ordered : ComeAfterParents links
  some : 1 ≤ parent
  there : parent ≤ length links
  place : next_place links ≡ place_numbers parent previous
  trees_whole : HasItsChildren trees
  one : 1 ≤ tree_count trees
  fewer : tree_count trees ≤ (links_at links parent).next_sibling

abbrev Joins : Forest → Type 0
Joins trees = (links : List Links) (parent previous : ℕ) → CanJoin links parent previous trees
    → HasJoined links parent previous trees (linked_on links (prefix trees))

-- a node behind these, with the trees below it
record HasEntered (front : List Links) (parent : ℕ) (below : Forest) (entered : List Links) : Type 0 where
  is : entered ≡ front ++ link_numbers parent (first_root (length front + 1 + 1) below) 0 ∷ stored_from (length front + 1) (length front + 1 + 1) below
  last : ℕ
  comes_by : next_place entered ≡ place_from (length entered) entered (length front + 1) last

entered : (front : List Links) (parent : ℕ) (children : ℕ) (below : Forest) → tree_count below ≡ children
    → HasItsChildren below → Joins below → ComeAfterParents (front ++ link_numbers parent (first_below (length front + 1) children) children ∷ [])
    → HasEntered front parent below (linked_on (front ++ link_numbers parent (first_below (length front + 1) children) children ∷ []) (prefix below))
entered front parent zero bare count whole joins ordered =
    let links : List Links = front ++ link_numbers parent 0 0 ∷ [] in
    let long : length links ≡ length front + 1 = length-append front (link_numbers parent 0 0 ∷ []) in
    record { is = refl; last = 0; comes_by = ap (λ n. place_from (length links) links n 0) long }
entered front parent (suc m) bare count whole joins ordered = absurd (omega arith)
entered front parent zero (grown node under beside) count whole joins ordered = absurd (omega arith)
entered front parent (suc m) (grown node under beside) count whole joins ordered =
    let below : Forest = grown node under beside in
    let k : ℕ = length front + 1 in
    let x : Links = link_numbers parent (k + 1) (suc m) in
    let links : List Links = front ++ x ∷ [] in
    let long : length links ≡ k = length-append front (x ∷ []) in
    let mine : links_at links k ≡ x = links_at-seam front x [] k refl in
    let to_come : (links_at links k).next_sibling ≡ suc m = ap (λ l. l.next_sibling) mine in
    let here : next_place links ≡ place_numbers k 0 = ap (λ n. place_from (length links) links n 0) long
    ∙ place-stop (length links) links k 0 (λ e. absurd (omega arith)) in
    let done = joins links k 0 (record {
      ordered = ordered;
      some = omega arith;
      there = omega arith;
      place = here;
      trees_whole = whole;
      one = omega arith;
      fewer = omega arith;
    }) in
    let none : (links_at links k).next_sibling - tree_count below ≡ 0 = omega arith in
    let left : with_next links k 0 ≡ front ++ link_numbers parent (k + 1) 0 ∷ [] = with_next-seam front x [] k 0 refl in
    record {
      is = done.is ∙ (λ i. with_next links k (none i) ++ stored_from k (long i + 1) below) ∙ ap (λ l. l ++ stored_from k (k + 1) below) left
          ∙ append_assoc front (link_numbers parent (k + 1) 0 ∷ []) (stored_from k (k + 1) below);
      last = done.last;
      comes_by = done.comes_by;
    }

-- with a first node and the trees below it entered, those beside it are still to come
record IsHalfway (links front : List Links) (parent previous : ℕ) (below beside : Forest) (half : List Links) : Type 0 where
  front_is : front ≡ with_next (with_next links previous (length links + 1)) parent ((links_at links parent).next_sibling - 1)
  long : length front ≡ length links
  inside : HasEntered front parent below half
  ordered : ComeAfterParents half
  some : 1 ≤ parent
  there : parent ≤ length links
  whole : HasItsChildren beside
  enough : suc (tree_count beside) ≤ (links_at links parent).next_sibling

-- nothing is to come beside the first tree
none_beside : (links front : List Links) (parent previous : ℕ) (node : Node) (below : Forest) (half : List Links)
    → IsHalfway links front parent previous below bare half
    → next_place half ≡ place_from (length half) half parent (length front + 1)
    → HasJoined links parent previous (grown node below bare) half
none_beside links front parent previous node below half is up =
    let stands : ℕ → List Links = λ n. front ++ link_numbers parent (first_root (n + 1 + 1) below) 0 ∷ stored_from (n + 1) (n + 1 + 1) below in
    record {
      is = is.inside.is ∙ ap stands is.long
          ∙ ap (λ rest. front ++ link_numbers parent (first_root (length links + 1 + 1) below) 0 ∷ rest)
          (sym (append-nil (stored_from (length links + 1) (length links + 1 + 1) below)))
          ∙ ap (λ l. l ++ stored_from parent (length links + 1) (grown node below bare)) is.front_is;
      last = length front + 1;
      comes_by = up;
    }

-- trees beside the first one come after it
some_beside : (links front : List Links) (parent previous : ℕ) (node : Node) (below beside : Forest) (half : List Links)
    → IsHalfway links front parent previous below beside half → Joins beside → 1 ≤ tree_count beside
    → ((n : ℕ) → first_root n beside ≡ n)
    → next_place half ≡ place_from (length half) half parent (length front + 1)
    → length half ≡ length front + 1 + node_count below
    → HasJoined links parent previous (grown node below beside) (linked_on half (prefix beside))
some_beside links front parent previous node below beside half is joins one first up size =
    let told : List Links = with_next links previous (length links + 1) in
    let to_come : ℕ = (links_at links parent).next_sibling in
    let k : ℕ = length front + 1 in
    let after : ℕ = k + 1 + node_count below in
    let x : Links = link_numbers parent (first_root (k + 1) below) 0 in
    let y : Links = link_numbers parent (first_root (k + 1) below) after in
    let inner : List Links = stored_from k (k + 1) below in
    let outer : List Links = stored_from parent after beside in
    let long : length front ≡ length links = is.long in
    let wide : length told ≡ length links = length-with_next links previous (length links + 1) in
    let there : parent ≤ length links = is.there in
    let enough : suc (tree_count beside) ≤ to_come = is.enough in
    let left : (links_at half parent).next_sibling ≡ to_come - 1 =
    ap (λ l. (links_at l parent).next_sibling) is.inside.is ∙ ap (λ l. l.next_sibling) (links_at-front front (x ∷ inner) parent (omega arith))
    ∙ ap (λ l. (links_at l parent).next_sibling) is.front_is ∙ next-with_next told parent (to_come - 1) is.some (omega arith)
    in let here : next_place half ≡ place_numbers parent k = up ∙ place-stop (length half) half parent k (λ e. absurd (omega arith)) in
    let done = joins half parent k (record {
      ordered = is.ordered;
      some = is.some;
      there = omega arith;
      place = here;
      trees_whole = is.whole;
      one = one;
      fewer = omega arith;
    }) in
    let behind : length half + 1 ≡ after = omega arith in
    let fewer : ℕ = to_come - suc (tree_count beside) in
    let less : (links_at half parent).next_sibling - tree_count beside ≡ fewer = omega arith in
    let joined : with_next half k after ≡ front ++ y ∷ inner = ap (λ l. with_next l k after) is.inside.is ∙ with_next-seam front x inner k after refl in
    let lowered : with_next (front ++ y ∷ inner) parent fewer ≡ with_next told parent fewer ++ y ∷ inner =
    with_next-front front (y ∷ inner) parent fewer (omega arith) ∙ ap (λ l. with_next l parent fewer ++ y ∷ inner) is.front_is
    ∙ ap (λ l. l ++ y ∷ inner) (with_next-twice told parent (to_come - 1) fewer (omega arith))
    in let stands : ℕ → List Links = λ n. with_next told parent fewer ++ link_numbers parent (first_root (n + 1 + 1) below) (n + 1 + 1 + node_count below)
    ∷ (stored_from (n + 1) (n + 1 + 1) below ++ stored_from parent (n + 1 + 1 + node_count below) beside) in
    record {
      is = done.is ∙ (λ i. with_next (with_next half k (behind i)) parent (less i) ++ stored_from parent (behind i) beside)
          ∙ ap (λ l. with_next l parent fewer ++ outer) joined ∙ ap (λ l. l ++ outer) lowered ∙ append_assoc (with_next told parent fewer) (y ∷ inner) outer
          ∙ ap stands long
          ∙ ap (λ n. with_next told parent fewer ++ link_numbers parent (first_root (length links + 1 + 1) below) n
          ∷ (stored_from (length links + 1) (length links + 1 + 1) below ++ stored_from parent (length links + 1 + 1 + node_count below) beside))
          (sym (first (length links + 1 + 1 + node_count below)));
      last = done.last;
      comes_by = done.comes_by;
    }

beside_cases : (links front : List Links) (parent previous : ℕ) (node : Node) (below beside : Forest) (half : List Links)
    → IsHalfway links front parent previous below beside half → Joins beside
    → next_place half ≡ place_from (length half) half parent (length front + 1)
    → length half ≡ length front + 1 + node_count below
    → HasJoined links parent previous (grown node below beside) (linked_on half (prefix beside))
beside_cases links front parent previous node below bare half is joins up size = none_beside links front parent previous node below half is up
beside_cases links front parent previous node below (grown other under rest) half is joins up size =
    some_beside links front parent previous node below (grown other under rest) half is joins (omega arith) (λ n. refl) up size

then_beside : (links front : List Links) (parent previous : ℕ) (node : Node) (below beside : Forest) (half : List Links)
    → IsHalfway links front parent previous below beside half → Joins beside
    → HasJoined links parent previous (grown node below beside) (linked_on half (prefix beside))
then_beside links front parent previous node below beside half is joins =
    let k : ℕ = length front + 1 in
    let x : Links = link_numbers parent (first_root (k + 1) below) 0 in
    let inner : List Links = stored_from k (k + 1) below in
    let mine : links_at half k ≡ x = ap (λ l. links_at l k) is.inside.is ∙ links_at-seam front x inner k refl in
    let size : length half ≡ k + node_count below = omega (
      arith,
      ap length is.inside.is,
      length-append front (x ∷ inner),
      length-stored_from k (k + 1) below,
    ) in
    let none : (links_at half k).next_sibling ≡ 0 = ap (λ l. l.next_sibling) mine in
    let up : next_place half ≡ place_from (length half) half parent k =
    is.inside.comes_by ∙ place-up (length half) half k is.inside.last is.ordered (omega arith) (omega arith) none
    ∙ ap (λ l. place_from (length half) half l.parent k) mine
    in beside_cases links front parent previous node below beside half is joins up size

joins : (trees : Forest) → Joins trees
joins bare links parent previous can = let one : 1 ≤ 0 = can.one in absurd (omega arith)
joins (grown node below beside) links parent previous can =
    let told : List Links = with_next links previous (length links + 1) in
    let to_come : ℕ = (links_at links parent).next_sibling in
    let front : List Links = with_next told parent (to_come - 1) in
    let long : length front ≡ length links = length-with_next told parent (to_come - 1) ∙ length-with_next links previous (length links + 1) in
    let first : List Links = front ++ link_numbers parent (first_below (length front + 1) node.children) node.children ∷ [] in
    let form : linked_next links node.children ≡ first =
    ap (λ place. linked_at links place node.children) can.place
    ∙ ap (λ n. front ++ link_numbers parent (first_below (n + 1) node.children) node.children ∷ []) (sym long)
    in let ordered : ComeAfterParents first = subst ComeAfterParents form (ComeAfterParents-next links node.children can.ordered) in
    let whole : linked_on (linked_next links node.children) (prefix below ++ prefix beside) ≡ linked_on (linked_on first (prefix below)) (prefix beside) =
    ap (λ l. linked_on l (prefix below ++ prefix beside)) form ∙ linked_on-append first (prefix below) (prefix beside)
    in let half : IsHalfway links front parent previous below beside (linked_on first (prefix below)) = record {
      front_is = refl;
      long = long;
      inside = entered front parent node.children below can.trees_whole.0 can.trees_whole.1 (joins below) ordered;
      ordered = ComeAfterParents-on first (prefix below) ordered;
      some = can.some;
      there = can.there;
      whole = can.trees_whole.2;
      enough = can.fewer;
    } in
    subst (HasJoined links parent previous (grown node below beside)) (sym whole)
    (then_beside links front parent previous node below beside (linked_on first (prefix below)) half (joins beside))

-- the nodes of one tree have the links of that tree
linked-tree : (tree : Forest) → IsTree tree → linked (prefix tree) ≡ stored tree
linked-tree bare is = absurd (omega (arith, is.one))
linked-tree (grown node below (grown other under rest)) is = absurd (omega (arith, is.one))
linked-tree (grown node below bare) is =
    let inside = entered [] 0 node.children below is.children.0 is.children.1 (joins below) (ComeAfterParents-next [] node.children none_in_order) in
    ap (linked_on (linked_next [] node.children)) (append-nil (prefix below)) ∙ inside.is
    ∙ ap (λ rest. link_numbers 0 (first_root 2 below) 0 ∷ rest) (sym (append-nil (stored_from 1 2 below)))

-- so do the nodes of a whole tree
pub linked-whole : (nodes : List Node) → IsWhole nodes → linked nodes ≡ stored (forest_of nodes)
linked-whole nodes whole = ap linked (sym (prefix-forest_of nodes)) ∙ linked-tree (forest_of nodes) (tree_of_whole nodes whole)
