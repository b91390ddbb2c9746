-- Trees that stand in a tree from some node on.
use Rattle.std.proofs.Common.{◌≡◌, ℕ, ◌+◌, ◌-◌, ◌≤◌, true, false, cond, List, [], ◌∷◌, ◌++◌, length, get_or, take, drop, refl, sym, ap, subst, ◌∙◌, arith}
use Rattle.std.proofs.Common.{length-append, Some, slice_get}
use Rattle.std.proofs.lemmas.List.{append_assoc, append-nil, get_or-drop, length-drop, drop-drop}
use Rattle.std.proofs.lemmas.Option.{get_or_from_slice_get}
use Rattle.std.proofs.lemmas.List.Sums.{sum_by-append}
use Rattle.std.proofs.Math.Seq.{drop-append_seam, take-append_seam, take-add}
use Rattle.def_history.specs.Jobs.{each_tree}
use Rattle.def_tree.specs.declared.Kind.TheVariants.{Chance, One, Two, Leaf}
use Rattle.def_tree.specs.declared.Kind.{Kind}
use Rattle.def_tree.specs.declared.Node.{Node}
use Rattle.def_tree.specs.Links.{children, children_from, children_of, roots_from}
use Rattle.def_tree.specs.Rules.{is_same_kind}
use Rattle.def_tree.specs.Tree.{Forest, bare, grown, node_count, prefix, is_leaf_kind, leaf_count}
use Rattle.xg_jobs.specs.Cutting.{AreJobsFrom, NoLeafBetween, StandAt, leaf_count_before}

drop_behind : {A : Type 0} (xs ys zs : List A) (n : ℕ) → drop n xs ≡ ys ++ zs → drop (n + length ys) xs ≡ zs
drop_behind xs ys zs n e = sym (drop-drop (length ys) n xs) ∙ ap (drop (length ys)) e ∙ drop-append_seam ys zs

take_behind : {A : Type 0} (xs ys zs : List A) (n : ℕ) → drop n xs ≡ ys ++ zs
    → take (n + length ys) xs ≡ take n xs ++ ys
take_behind xs ys zs n e =
    take-add n (length ys) xs ∙ ap (λ ts. take n xs ++ ts) (ap (take (length ys)) e ∙ take-append_seam ys zs)

-- there are lists of children for as many nodes as trees have
lists_counted : (k : ℕ) (trees : Forest) → length (children_from k trees) ≡ node_count trees
lists_counted k bare = refl
lists_counted k (grown node below beside) =
    let next : ℕ = k + 1 + node_count below in
    omega (
      arith,
      lists_counted (k + 1) below,
      lists_counted next beside,
      length-append (children_from (k + 1) below) (children_from next beside),
      length-append (prefix below) (prefix beside),
    )

-- the node that is read where some trees stand is the top node of the first one
pub top_is : (tree : Forest) (k : ℕ) (node : Node) (below beside : Forest) (read : Node)
    → StandAt tree k (grown node below beside) → slice_get (prefix tree) (k - 1) ≡ Some read → read ≡ node
top_is tree k node below beside read s is =
    let at : k - 1 ≡ k - 1 + 0 = omega arith in
    sym (get_or_from_slice_get (prefix tree) (k - 1) read read is)
    ∙ ap (λ n. get_or (prefix tree) n read) at ∙ sym (get_or-drop (k - 1) (prefix tree) 0 read)
    ∙ ap (λ xs. get_or xs 0 read) s.nodes

-- its children are the top nodes of the trees below it
pub children_at : (tree : Forest) (k : ℕ) (node : Node) (below beside : Forest)
    → StandAt tree k (grown node below beside) → children_of tree k ≡ roots_from (k + 1) below
children_at tree k node below beside s =
    let at : k - 1 ≡ k - 1 + 0 = omega arith in
    ap (λ n. get_or (children tree) n []) at ∙ sym (get_or-drop (k - 1) (children tree) 0 [])
    ∙ ap (λ xs. get_or xs 0 []) s.children_are

-- where there is a tree, the node at which it stands is one of the tree's
pub stand_there : (tree : Forest) (k : ℕ) (node : Node) (below beside : Forest)
    → StandAt tree k (grown node below beside) → k + node_count (grown node below beside) ≤ node_count tree + 1
stand_there tree k node below beside s =
    omega (
      arith,
      s.from_one,
      ap length s.nodes,
      length-append (prefix (grown node below beside)) s.later_nodes,
      length-drop (k - 1) (prefix tree),
    )

-- the first of some trees
stand_first : (tree : Forest) (k : ℕ) (node : Node) (below beside : Forest)
    → StandAt tree k (grown node below beside) → StandAt tree k (grown node below bare)
stand_first tree k node below beside s = record {
  from_one = s.from_one;
  later_nodes = prefix beside ++ s.later_nodes;
  nodes = s.nodes ∙ ap (λ xs. node ∷ xs) (append_assoc (prefix below) (prefix beside) s.later_nodes)
      ∙ ap (λ xs. node ∷ (xs ++ (prefix beside ++ s.later_nodes))) (sym (append-nil (prefix below)));
  later_children = after ++ s.later_children;
  children_are = s.children_are
      ∙ ap (λ xs. roots_from (k + 1) below ∷ xs) (append_assoc under after s.later_children)
      ∙ ap (λ xs. roots_from (k + 1) below ∷ (xs ++ (after ++ s.later_children))) (sym (append-nil under));
  whole = (s.whole.0, s.whole.1, tt);
}
  where
    under : List (List ℕ)
    under = children_from (k + 1) below

    after : List (List ℕ)
    after = children_from (k + 1 + node_count below) beside

-- behind the first node stand the nodes below it, and behind those the ones beside it
nodes_below : (tree : Forest) (k : ℕ) (node : Node) (below beside : Forest)
    (s : StandAt tree k (grown node below beside))
    → drop (k + 1 - 1) (prefix tree) ≡ prefix below ++ (prefix beside ++ s.later_nodes)
nodes_below tree k node below beside s =
    let next : k + 1 - 1 ≡ k - 1 + 1 = omega (arith, s.from_one) in
    ap (λ n. drop n (prefix tree)) next
    ∙ drop_behind (prefix tree) (node ∷ []) ((prefix below ++ prefix beside) ++ s.later_nodes) (k - 1) s.nodes
    ∙ append_assoc (prefix below) (prefix beside) s.later_nodes

-- and so do the lists of children
lists_below : (tree : Forest) (k : ℕ) (node : Node) (below beside : Forest)
    (s : StandAt tree k (grown node below beside))
    → drop (k + 1 - 1) (children tree)
    ≡ children_from (k + 1) below ++ (children_from (k + 1 + node_count below) beside ++ s.later_children)
lists_below tree k node below beside s =
    let next : k + 1 - 1 ≡ k - 1 + 1 = omega (arith, s.from_one) in
    let under : List (List ℕ) = children_from (k + 1) below in
    let after : List (List ℕ) = children_from (k + 1 + node_count below) beside in
    ap (λ n. drop n (children tree)) next
    ∙ drop_behind (children tree) (roots_from (k + 1) below ∷ []) ((under ++ after) ++ s.later_children) (k - 1)
    s.children_are
    ∙ append_assoc under after s.later_children

-- those below the first node stand from the next node on
pub stand_below : (tree : Forest) (k : ℕ) (node : Node) (below beside : Forest)
    → StandAt tree k (grown node below beside) → StandAt tree (k + 1) below
stand_below tree k node below beside s = record {
  from_one = omega arith;
  later_nodes = prefix beside ++ s.later_nodes;
  nodes = nodes_below tree k node below beside s;
  later_children = children_from (k + 1 + node_count below) beside ++ s.later_children;
  children_are = lists_below tree k node below beside s;
  whole = s.whole.1;
}

-- those beside the first tree stand behind it
stand_beside : (tree : Forest) (k : ℕ) (node : Node) (below beside : Forest)
    → StandAt tree k (grown node below beside) → StandAt tree (k + 1 + node_count below) beside
stand_beside tree k node below beside s =
    let nodes : k + 1 + node_count below - 1 ≡ k + 1 - 1 + length (prefix below) = omega arith in
    let lists : k + 1 + node_count below - 1 ≡ k + 1 - 1 + length (children_from (k + 1) below) =
    omega (arith, lists_counted (k + 1) below) in
    record {
      from_one = omega arith;
      later_nodes = s.later_nodes;
      nodes = ap (λ n. drop n (prefix tree)) nodes
          ∙ drop_behind (prefix tree) (prefix below) (prefix beside ++ s.later_nodes) (k + 1 - 1)
          (nodes_below tree k node below beside s);
      later_children = s.later_children;
      children_are = ap (λ n. drop n (children tree)) lists
          ∙ drop_behind (children tree) (children_from (k + 1) below)
          (children_from (k + 1 + node_count below) beside ++ s.later_children) (k + 1 - 1)
          (lists_below tree k node below beside s);
      whole = s.whole.2;
    }

-- behind trees come so many leaves more
pub leaves_behind : (tree : Forest) (k : ℕ) (trees : Forest) → StandAt tree k trees
    → leaf_count_before tree (k + node_count trees) ≡ leaf_count_before tree k + leaf_count (prefix trees)
leaves_behind tree k trees s =
    let at : k + node_count trees - 1 ≡ k - 1 + length (prefix trees) = omega (arith, s.from_one) in
    ap (λ n. leaf_count (take n (prefix tree))) at
    ∙ ap leaf_count (take_behind (prefix tree) (prefix trees) s.later_nodes (k - 1) s.nodes)
    ∙ sum_by-append (λ node. cond (is_leaf_kind node.kind) 1 0) (take (k - 1) (prefix tree)) (prefix trees)

not_leaf : (kind : Kind) → is_same_kind Chance kind ≡ true → is_leaf_kind kind ≡ false
not_leaf Chance e = refl
not_leaf One e = refl
not_leaf Two e = refl
not_leaf Leaf e = cc

-- a chance node is no leaf
pub chance_no_leaf : (tree : Forest) (k : ℕ) (node : Node) (below beside : Forest)
    → StandAt tree k (grown node below beside) → is_same_kind Chance node.kind ≡ true → NoLeafBetween tree k (k + 1)
chance_no_leaf tree k node below beside s chance =
    let at : k + 1 - 1 ≡ k - 1 + 1 = omega (arith, s.from_one) in
    let behind : List Node = (prefix below ++ prefix beside) ++ s.later_nodes in
    let more : leaf_count_before tree (k + 1) ≡ leaf_count_before tree k + leaf_count (node ∷ []) =
    ap (λ n. leaf_count (take n (prefix tree))) at
    ∙ ap leaf_count (take_behind (prefix tree) (node ∷ []) behind (k - 1) s.nodes)
    ∙ sum_by-append (λ node. cond (is_leaf_kind node.kind) 1 0) (take (k - 1) (prefix tree)) (node ∷ []) in
    record { ordered = omega arith; no_leaf = omega (arith, more, none node chance) }
  where
    none : (node : Node) → is_same_kind Chance node.kind ≡ true → leaf_count (node ∷ []) ≡ 0
    none node chance = ap (λ b. 0 + cond b 1 0) (not_leaf node.kind chance)

-- from a node up to itself there is no leaf, nor from one over another up to a third where there is none between them
pub same_node : (tree : Forest) (k : ℕ) → NoLeafBetween tree k k
same_node tree k = record { ordered = omega arith; no_leaf = refl }

pub over : (tree : Forest) (a b c : ℕ) → NoLeafBetween tree a b → NoLeafBetween tree b c → NoLeafBetween tree a c
over tree a b c x y = record { ordered = omega (arith, x.ordered, y.ordered); no_leaf = x.no_leaf ∙ y.no_leaf }

-- the jobs may begin earlier where no leaf is added
pub begin_earlier : (tree : Forest) (a b end : ℕ) (nodes : List ℕ) (jobs : List Forest) → NoLeafBetween tree a b
    → AreJobsFrom tree b end nodes jobs → AreJobsFrom tree a end nodes jobs
begin_earlier tree a b end [] [] x are = over tree a b end x are
begin_earlier tree a b end [] (y ∷ ys) x are = absurd are
begin_earlier tree a b end (k ∷ ks) [] x are = absurd are
begin_earlier tree a b end (k ∷ ks) (y ∷ ys) x are =
    (record { one = are.0.one; there = are.0.there; before = over tree a b k x are.0.before }, are.1)

-- jobs up to a node, and behind them those from there on
pub append_jobs : (tree : Forest) (a b end : ℕ) (ks ls : List ℕ) (xs ys : List Forest) → AreJobsFrom tree a b ks xs
    → AreJobsFrom tree b end ls ys → AreJobsFrom tree a end (ks ++ ls) (xs ++ ys)
append_jobs tree a b end [] ls [] ys are more = begin_earlier tree a b end ls ys are more
append_jobs tree a b end [] ls (x ∷ xs) ys are more = absurd are
append_jobs tree a b end (k ∷ ks) ls [] ys are more = absurd are
append_jobs tree a b end (k ∷ ks) ls (x ∷ xs) ys are more =
    (are.0, append_jobs tree (k + node_count x) b end ks ls xs ys are.1 more)

-- each of some trees is a job
pub each_job : (tree : Forest) (k : ℕ) (trees : Forest) → StandAt tree k trees
    → AreJobsFrom tree k (k + node_count trees) (roots_from k trees) (each_tree trees)
each_job tree k bare s = record { ordered = omega arith; no_leaf = ap (leaf_count_before tree) (omega arith) }
each_job tree k (grown node below beside) s =
    let next : ℕ = k + 1 + node_count below in
    let end : ℕ = k + node_count (grown node below beside) in
    let first : next ≡ k + node_count (grown node below bare) = omega (arith, length-append (prefix below) []) in
    let last : next + node_count beside ≡ end = omega (arith, length-append (prefix below) (prefix beside)) in
    let others = each_job tree next beside (stand_beside tree k node below beside s) in (
      record { one = refl; there = stand_first tree k node below beside s; before = same_node tree k },
      subst (λ n. AreJobsFrom tree n end (roots_from next beside) (each_tree beside)) first
          (subst (λ n. AreJobsFrom tree next n (roots_from next beside) (each_tree beside)) last others),
    )
