-- Lists of nodes: how many are still wanted after them, and the trees that they are.
use Rattle.std.proofs.Common.{◌≡◌, ℕ, suc, ◌+◌, ◌-◌, ◌<◌, List, [], ◌∷◌, ◌++◌, refl, ap, sym, subst, ◌∙◌, append_assoc, append-nil, arith}
use Rattle.def_tree.specs.declared.Node.{Node}
use Rattle.def_tree.specs.Tree.{Forest, bare, grown, prefix, tree_count, HasItsChildren, IsTree, IsWhole, Begins, wanted, take_trees, drop_trees, forest_of}
use Rattle.def_tree.proofs.Forests.{prefix-forest_of, tree_count-take_trees, tree_count-drop_trees, HasItsChildren-take_trees, HasItsChildren-drop_trees}

-- behind two lists as many nodes are wanted as the second leaves of what the first left
pub wanted-append : (n : ℕ) (xs ys : List Node) → wanted n (xs ++ ys) ≡ wanted (wanted n xs) ys
wanted-append n [] ys = refl
wanted-append n (x ∷ xs) ys = wanted-append (n + x.children - 1) xs ys

-- two lists together begin trees where the first does and the second goes on with what is still wanted
pub Begins-append : (n : ℕ) (xs ys : List Node) → Begins n xs → Begins (wanted n xs) ys → Begins n (xs ++ ys)
Begins-append n [] ys h k = k
Begins-append n (x ∷ xs) ys h k = (h.0, Begins-append (n + x.children - 1) xs ys h.1 k)

-- nodes that begin n trees and want no more are n trees
pub trees_of : (n : ℕ) (nodes : List Node) → Begins n nodes → wanted n nodes ≡ 0
    → (tree_count (forest_of nodes) ≡ n) × HasItsChildren (forest_of nodes)
trees_of n [] h e = (sym e, tt)
trees_of n (node ∷ rest) h e =
    let behind : (tree_count (forest_of rest) ≡ n + node.children - 1) × HasItsChildren (forest_of rest) = trees_of (n + node.children - 1) rest h.1 e in
    let some : 0 < n = h.0 in
    let count : tree_count (forest_of rest) ≡ n + node.children - 1 = behind.0 in
    let below : tree_count (take_trees node.children (forest_of rest)) ≡ node.children = tree_count-take_trees node.children (forest_of rest) (omega arith) in
    let beside : tree_count (drop_trees node.children (forest_of rest)) ≡ tree_count (forest_of rest)
    - node.children = tree_count-drop_trees node.children (forest_of rest) in
    (omega arith, (below, HasItsChildren-take_trees node.children (forest_of rest) behind.1, HasItsChildren-drop_trees node.children (forest_of rest) behind.1))

-- the nodes of some trees, put before others, want as many more as there are trees
pub wanted-prefix : (xs : Forest) (n : ℕ) (rest : List Node) → HasItsChildren xs
    → wanted (tree_count xs + n) (prefix xs ++ rest) ≡ wanted n rest
wanted-prefix bare n rest h = ap (λ m. wanted m rest) (omega arith)
wanted-prefix (grown node below beside) n rest h =
    let has : tree_count below ≡ node.children = h.0 in
    let left : suc (tree_count beside) + n + node.children - 1 ≡ tree_count below + (tree_count beside + n) = omega arith in
    ap (λ m. wanted m ((prefix below ++ prefix beside) ++ rest)) left ∙ ap (wanted (tree_count below + (tree_count beside + n)))
    (append_assoc (prefix below) (prefix beside) rest)
    ∙ wanted-prefix below (tree_count beside + n) (prefix beside ++ rest) h.1 ∙ wanted-prefix beside n rest h.2

pub Begins-prefix : (xs : Forest) (n : ℕ) (rest : List Node) → HasItsChildren xs → Begins n rest
    → Begins (tree_count xs + n) (prefix xs ++ rest)
Begins-prefix bare n rest h b = let e : 0 + n ≡ n = omega arith in subst (λ m. Begins m rest) (sym e) b
Begins-prefix (grown node below beside) n rest h b =
    let has : tree_count below ≡ node.children = h.0 in
    let left : suc (tree_count beside) + n + node.children - 1 ≡ tree_count below + (tree_count beside + n) = omega arith in (
      omega arith,
      subst (λ m. Begins m ((prefix below ++ prefix beside) ++ rest)) (sym left)
          (subst (Begins (tree_count below + (tree_count beside + n))) (sym (append_assoc (prefix below) (prefix beside) rest))
          (Begins-prefix below (tree_count beside + n) (prefix beside ++ rest) h.1 (Begins-prefix beside n rest h.2 b))),
    )

-- the nodes of one whole tree make one tree, with as many children at each node as it says
pub tree_of_whole : (nodes : List Node) → IsWhole nodes → IsTree (forest_of nodes)
tree_of_whole nodes h = let t : (tree_count (forest_of nodes) ≡ 1) × HasItsChildren (forest_of nodes) = trees_of 1 nodes h.begins
    h.ends in record { one = t.0; children = t.1 }

-- where nodes make one tree, they are those of one whole tree
pub whole_of_tree : (nodes : List Node) → IsTree (forest_of nodes) → IsWhole nodes
whole_of_tree nodes h =
    let same : prefix (forest_of nodes) ++ [] ≡ nodes = append-nil (prefix (forest_of nodes)) ∙ prefix-forest_of nodes in
    let one : tree_count (forest_of nodes) + 0 ≡ 1 = let e : tree_count (forest_of nodes) ≡ 1 = h.one in omega arith in
    record {
      begins = subst (λ m. Begins m nodes) one (subst (Begins (tree_count (forest_of nodes) + 0)) same (Begins-prefix (forest_of nodes) 0 [] h.children tt));
      ends = ap (λ m. wanted m nodes) (sym one) ∙ ap (wanted (tree_count (forest_of nodes) + 0)) (sym same) ∙ wanted-prefix (forest_of nodes) 0 [] h.children;
    }
