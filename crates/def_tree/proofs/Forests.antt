-- Rows of trees: cutting them, and joining them side by side.
use Rattle.std.proofs.Common.{◌≡◌, ℕ, zero, suc, ◌-◌, ◌≤◌, List, [], ◌∷◌, ◌++◌, refl, ap, sym, ◌∙◌, append_assoc, append-nil, arith}
use Rattle.def_tree.specs.declared.Node.{Node}
use Rattle.def_tree.specs.Tree.{Forest, bare, grown, prefix, tree_count, HasItsChildren, take_trees, drop_trees, forest_of}

-- the trees of the first row, and then those of the second
abbrev pub joined_forests : Forest → Forest → Forest
joined_forests bare ys = ys
joined_forests (grown node below beside) ys = grown node below (joined_forests beside ys)

pub joined-bare : (xs : Forest) → joined_forests xs bare ≡ xs
joined-bare bare = refl
joined-bare (grown node below beside) = ap (grown node below) (joined-bare beside)

pub prefix-cut : (n : ℕ) (xs : Forest) → prefix (take_trees n xs) ++ prefix (drop_trees n xs) ≡ prefix xs
prefix-cut zero xs = refl
prefix-cut (suc n) bare = refl
prefix-cut (suc n) (grown node below beside) =
    ap (λ rest. node ∷ rest) (append_assoc (prefix below) (prefix (take_trees n beside)) (prefix (drop_trees n beside))
    ∙ ap (λ rest. prefix below ++ rest) (prefix-cut n beside))

-- the trees made of a list of nodes have these nodes in prefix order
pub prefix-forest_of : (nodes : List Node) → prefix (forest_of nodes) ≡ nodes
prefix-forest_of [] = refl
prefix-forest_of (node ∷ rest) = ap (λ xs. node ∷ xs) (prefix-cut node.children (forest_of rest) ∙ prefix-forest_of rest)

pub take_trees-joined : (xs ys : Forest) → take_trees (tree_count xs) (joined_forests xs ys) ≡ xs
take_trees-joined bare ys = refl
take_trees-joined (grown node below beside) ys = ap (grown node below) (take_trees-joined beside ys)

pub drop_trees-joined : (xs ys : Forest) → drop_trees (tree_count xs) (joined_forests xs ys) ≡ ys
drop_trees-joined bare ys = refl
drop_trees-joined (grown node below beside) ys = drop_trees-joined beside ys

-- the nodes of some trees, and then others: the trees stand first, and then those of the others
pub forest_of-prefix : (xs : Forest) (rest : List Node) → HasItsChildren xs
    → forest_of (prefix xs ++ rest) ≡ joined_forests xs (forest_of rest)
forest_of-prefix bare rest h = refl
forest_of-prefix (grown node below beside) rest h =
    let behind : forest_of ((prefix below ++ prefix beside) ++ rest) ≡ joined_forests below (joined_forests beside (forest_of rest)) =
    ap forest_of (append_assoc (prefix below) (prefix beside) rest) ∙ forest_of-prefix below (prefix beside ++ rest) h.1
    ∙ ap (joined_forests below) (forest_of-prefix beside rest h.2)
    in let first : take_trees node.children (joined_forests below (joined_forests beside (forest_of rest))) ≡ below =
    ap (λ n. take_trees n (joined_forests below (joined_forests beside (forest_of rest)))) (sym h.0)
    ∙ take_trees-joined below (joined_forests beside (forest_of rest))
    in let others : drop_trees node.children (joined_forests below (joined_forests beside (forest_of rest))) ≡ joined_forests beside (forest_of rest) =
    ap (λ n. drop_trees n (joined_forests below (joined_forests beside (forest_of rest)))) (sym h.0)
    ∙ drop_trees-joined below (joined_forests beside (forest_of rest))
    in λ i. grown node
    ((ap (take_trees node.children) behind ∙ first) i)
    ((ap (drop_trees node.children) behind ∙ others) i)

-- trees whose nodes have the children they say are made again of their nodes in prefix order
pub forest_of-prefix_whole : (xs : Forest) → HasItsChildren xs → forest_of (prefix xs) ≡ xs
forest_of-prefix_whole xs h = ap forest_of (sym (append-nil (prefix xs))) ∙ forest_of-prefix xs [] h ∙ joined-bare xs

-- the first n trees are n in number, where there are so many
pub tree_count-take_trees : (n : ℕ) (xs : Forest) → n ≤ tree_count xs → tree_count (take_trees n xs) ≡ n
tree_count-take_trees zero xs h = refl
tree_count-take_trees (suc n) bare h = absurd (omega arith)
tree_count-take_trees (suc n) (grown node below beside) h = ap suc (tree_count-take_trees n beside (omega arith))

-- without the first n trees there are n fewer
pub tree_count-drop_trees : (n : ℕ) (xs : Forest) → tree_count (drop_trees n xs) ≡ tree_count xs - n
tree_count-drop_trees zero xs = omega arith
tree_count-drop_trees (suc n) bare = omega arith
tree_count-drop_trees (suc n) (grown node below beside) = let e : tree_count (drop_trees n beside) ≡ tree_count beside
    - n = tree_count-drop_trees n beside in omega arith

-- where each node has as many children as it says, so it has in the first n trees
pub HasItsChildren-take_trees : (n : ℕ) (xs : Forest) → HasItsChildren xs → HasItsChildren (take_trees n xs)
HasItsChildren-take_trees zero xs h = tt
HasItsChildren-take_trees (suc n) bare h = tt
HasItsChildren-take_trees (suc n) (grown node below beside) h = (h.0, h.1, HasItsChildren-take_trees n beside h.2)

-- where each node has as many children as it says, so it has in the trees behind the first n
pub HasItsChildren-drop_trees : (n : ℕ) (xs : Forest) → HasItsChildren xs → HasItsChildren (drop_trees n xs)
HasItsChildren-drop_trees zero xs h = h
HasItsChildren-drop_trees (suc n) bare h = tt
HasItsChildren-drop_trees (suc n) (grown node below beside) h = HasItsChildren-drop_trees n beside h.2
