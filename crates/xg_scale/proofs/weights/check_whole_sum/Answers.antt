use Rattle.std.proofs.Common.{◌≡◌, ◌+◌, ◌-◌, ◌<◌, ◌∙◌, Some, ap, arith, refl, slice_get, sym}
use Rattle.std.specs.Prelude.{unsigned_abs}
use Rattle.def_tree.specs.Tree.{node_count, prefix}
use Rattle.def_game_numbers.specs.Numbers.{tables_of}
use Rattle.def_game_scale.specs.Faults.{whole_sum_fault}
use Rattle.def_game_scale.specs.Scale.{whole_sum}
use Rattle.xg_scale.proofs.FoundLemmas.{found_none}
use Rattle.xg_scale.proofs.GameLemmas.{tree_rules}
use Rattle.xg_scale.proofs.SumLemmas.{sum_passed, sum_past, sum_within}
use Rattle.xg_scale.proofs.weights.check_whole_sum.Goals as goal

pub returns-then-is_whole_within-clause-ok : goal.returns-then-is_whole_within-clause-ok
returns-then-is_whole_within-clause-ok c =
    let game = c.args.game.now in
    sum_within (tables_of game) game.tree c.args.expected.now c.requires.expected c.sum_of_leaves.result c.sum_of_leaves.ensures
    (sym c.is_whole_within.ensures ∙ c.if-is_whole_within.true)

pub loop-k-init : goal.loop-k-init
loop-k-init c = refl

pub returns-then-is_leaf-clause-err : goal.returns-then-is_leaf-clause-err
returns-then-is_leaf-clause-err c =
    let game = c.args.game.now in
    let tree = c.tree-tree.ensures.tree in
    let there : c.loop-k.k < node_count game.tree = omega (arith, c.loop-k-test.true, c.len-k-end.ensures.count, ap node_count tree) in
    let read : slice_get (prefix game.tree) (c.loop-k.k + 1 - 1) ≡ Some c.node.result = ap (λ t. slice_get (prefix t) (c.loop-k.k + 1 - 1)) (sym tree)
    ∙ c.node.ensures in
    sum_past (tables_of game) game.tree c.args.expected.now c.requires.expected c.sum_of_leaves.result c.sum_of_leaves.ensures
    (tree_rules game c.tree-tree.ensures.whole) c.loop-k.k there c.node.result read
    c.loop-k.invariant (sym c.is_leaf.ensures ∙ c.if-is_leaf.true) (sym c.is_whole_within.ensures ∙ c.if-is_whole_within.false)

pub loop-k-preserved : goal.loop-k-preserved
loop-k-preserved c =
    let game = c.args.game.now in
    let tree = c.tree-tree.ensures.tree in
    let there : c.loop-k.k < node_count game.tree = omega (arith, c.loop-k-test.true, c.len-k-end.ensures.count, ap node_count tree) in
    let read : slice_get (prefix game.tree) (c.loop-k.k + 1 - 1) ≡ Some c.node.result = ap (λ t. slice_get (prefix t) (c.loop-k.k + 1 - 1)) (sym tree)
    ∙ c.node.ensures in
    sum_passed (tables_of game) game.tree c.args.expected.now c.requires.expected c.sum_of_leaves.result c.sum_of_leaves.ensures
    (tree_rules game c.tree-tree.ensures.whole) c.loop-k.k there c.node.result read
    c.loop-k.invariant (sym c.is_leaf.ensures ∙ c.if-is_leaf.false)

pub returns-clause-ok : goal.returns-clause-ok
returns-clause-ok c =
    let game = c.args.game.now in
    let last : c.loop-k.k ≡ node_count game.tree = omega (
      arith,
      c.loop-k-test.false,
      c.loop-k.auto.k-end,
      c.len-k-end.ensures.count,
      ap node_count c.tree-tree.ensures.tree,
    ) in
    c.loop-k.invariant ∙ found_none game.tree (whole_sum_fault (unsigned_abs (whole_sum (tables_of game) game.tree))) c.loop-k.k last
