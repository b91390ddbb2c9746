use Rattle.std.proofs.Common.{◌≡◌, ◌+◌, ◌-◌, ◌<◌, ◌∙◌, Some, ap, arith, slice_get, subst, sym}
use Rattle.std.proofs.lemmas.Result.{err_from_is_err_and}
use Rattle.def_tree.specs.Tree.{node_count, prefix}
use Rattle.def_game_numbers.specs.Numbers.{tables_of}
use Rattle.xg_scale.specs.Chance.{PassedSets, node_test_of}
use Rattle.xg_scale.proofs.FoundLemmas.{found_none}
use Rattle.xg_scale.proofs.GameLemmas.{set_counts, tree_rules}
use Rattle.xg_scale.proofs.SetLemmas.{set_broken, set_opened, set_passed}
use Rattle.xg_scale.proofs.chance.check_by_nodes.Goals as goal
use Rattle.xg_scale.proofs.chance.check_by_nodes.Goals.{then-opens_set+in_ok-check_set, else-opens_set}

pub returns-in_err-check_set-clause-err : goal.returns-in_err-check_set-clause-err
returns-in_err-check_set-clause-err c =
    let game = c.args.game.now in
    let tree = c.tree-tree.ensures.tree in
    let there : c.loop-k.k < node_count game.tree = omega (arith, c.loop-k-test.true, c.len-k-end.ensures.count, ap node_count tree) in
    let read : slice_get (prefix game.tree) (c.loop-k.k + 1 - 1) ≡ Some c.node-node.result = ap (λ t. slice_get (prefix t) (c.loop-k.k + 1 - 1)) (sym tree)
    ∙ c.node-node.ensures in
    let found =
    set_broken c.args.test (tables_of game) game.tree (tree_rules game c.tree-tree.ensures.whole) c.loop-k.k there c.node-node.result read c.loop-k.seen
    c.loop-k.invariant (sym c.opens_set.ensures ∙ c.if-opens_set.true)
    c.in_err-check_set.field-0.0 c.in_err-check_set.ensures.err in
    let p = err_from_is_err_and c.from_residual.result c.from_residual.ensures.1 in rw (p.1, p.2) found

pub loop-k-preserved : goal.loop-k-preserved
loop-k-preserved c =
    let game = c.args.game.now in
    let tree = c.tree-tree.ensures.tree in
    let there : c.loop-k.k < node_count game.tree = omega (arith, c.loop-k-test.true, c.len-k-end.ensures.count, ap node_count tree) in
    let read : slice_get (prefix game.tree) (c.loop-k.k + 1 - 1) ≡ Some c.node-node.result = ap (λ t. slice_get (prefix t) (c.loop-k.k + 1 - 1)) (sym tree)
    ∙ c.node-node.ensures in
    elim c.if-opens_set.branch [
      | then-opens_set+in_ok-check_set w ↦
          subst (PassedSets c.args.test (tables_of game) game.tree (c.loop-k.k + 1)) (sym w.seen-is)
          (set_opened c.args.test (tables_of game) game.tree (tree_rules game c.tree-tree.ensures.whole) c.loop-k.k there c.node-node.result read c.loop-k.seen
          c.loop-k.invariant (sym c.opens_set.ensures ∙ w.if-opens_set.true)
          w.in_ok-check_set.ensures.ok)
      | else-opens_set w ↦
          subst (PassedSets c.args.test (tables_of game) game.tree (c.loop-k.k + 1)) (sym w.seen-is)
          (set_passed c.args.test (tables_of game) game.tree (tree_rules game c.tree-tree.ensures.whole) c.loop-k.k there c.node-node.result read c.loop-k.seen
          c.loop-k.invariant
          (set_counts game c.tree-tree.ensures.whole c.loop-k.k c.node-node.result read) (sym c.opens_set.ensures ∙ w.if-opens_set.false))
    ]

pub returns-clause-ok : goal.returns-clause-ok
returns-clause-ok c =
    let game = c.args.game.now in
    let last : c.loop-k.k ≡ node_count game.tree = omega (
      arith,
      c.loop-k-test.false,
      c.loop-k.auto.k-end,
      c.len-k-end.ensures.count,
      ap node_count c.tree-tree.ensures.tree,
    ) in
    c.loop-k.invariant.rest ∙ found_none game.tree (node_test_of c.args.test (tables_of game)) c.loop-k.k last
