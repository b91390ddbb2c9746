use Rattle.std.proofs.Common.{◌≡◌, ◌+◌, ◌-◌, ◌≤◌, ℕ, cond, get_or, take, sym, ap, ◌∙◌, arith, Some, slice_get}
use Rattle.std.proofs.lemmas.List.{take_more}
use Rattle.std.proofs.lemmas.List.Sums.{sum_by_push}
use Rattle.std.proofs.lemmas.Option.{get_or_from_slice_get}
use Rattle.def_tree.specs.declared.Node.{Node}
use Rattle.def_tree.specs.Tree.{Forest, is_leaf_kind, is_leaf_node, leaf_count, node_count, prefix}
use Rattle.xg_jobs.specs.Cutting.{leaf_count_before}
use Rattle.xg_jobs.proofs.Ranging.{leaves_few}
use Rattle.xg_jobs.proofs.cutting.leaves_between.Goals as goal
use Rattle.xg_jobs.proofs.cutting.leaves_between.Goals.{then-is_leaf, else-is_leaf}

-- one more node is a leaf or isn't
node_more : (tree : Forest) (k : ℕ) (node : Node) → 1 ≤ k → k ≤ node_count tree
    → slice_get (prefix tree) (k - 1) ≡ Some node
    → leaf_count_before tree (k + 1) ≡ leaf_count_before tree k + cond (is_leaf_node node) 1 0
node_more tree k node low high read =
    let at : k + 1 - 1 ≡ k - 1 + 1 = omega arith in
    let here : Node = get_or (prefix tree) (k - 1) node in
    let is : here ≡ node = get_or_from_slice_get (prefix tree) (k - 1) node node read in
    ap (λ n. leaf_count (take n (prefix tree))) at
    ∙ ap leaf_count (take_more (prefix tree) (k - 1) node (omega arith))
    ∙ sum_by_push (λ x. cond (is_leaf_kind x.kind) 1 0) (take (k - 1) (prefix tree)) here
    ∙ ap (λ (x : Node). leaf_count_before tree k + cond (is_leaf_node x) 1 0) is

pub overflow_add-leaves : goal.overflow_add-leaves
overflow_add-leaves c =
    let tree : Forest = c.args.tree.now in
    let k : ℕ = c.loop-k.k in
    let had : leaf_count_before tree c.args.from + c.loop-k.leaves ≡ leaf_count_before tree k = c.loop-k.invariant in
    omega (arith, had, leaves_few tree k, c.loop-k-test.true, c.ranges.to)

pub loop-k-preserved : goal.loop-k-preserved
loop-k-preserved c =
    let tree : Forest = c.args.tree.now in
    let k : ℕ = c.loop-k.k in
    let had : leaf_count_before tree c.args.from + c.loop-k.leaves ≡ leaf_count_before tree k = c.loop-k.invariant in
    let more = node_more tree k c.node.result (omega arith) (omega arith) c.node.ensures in
    elim c.if-is_leaf.branch [
      | then-is_leaf w ↦
          let one = ap (λ b. leaf_count_before tree k + cond b 1 0) (sym c.is_leaf.ensures ∙ w.if-is_leaf.true) in
          omega (arith, had, more ∙ one, w.leaves-is)
      | else-is_leaf w ↦
          let none = ap (λ b. leaf_count_before tree k + cond b 1 0) (sym c.is_leaf.ensures ∙ w.if-is_leaf.false) in
          omega (arith, had, more ∙ none, w.leaves-is)
    ]

pub returns : goal.returns
returns c =
    let end : c.loop-k.k ≡ c.args.to = omega (arith, c.loop-k.auto.k-end c.requires.ordered, c.loop-k-test.false) in
    c.loop-k.invariant ∙ ap (leaf_count_before c.args.tree.now) end
