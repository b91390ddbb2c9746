use Rattle.std.proofs.Common.{◌≡◌, ap, arith}
use Rattle.def_tree.specs.Tree.{node_count}
use Rattle.def_game_numbers.specs.Numbers.{tables_of}
use Rattle.xg_scale.proofs.WeighLemmas.{all_weighed, keeps_weights, masses_pass}
use Rattle.xg_scale.proofs.weights.weigh_leaves.Goals as goal

pub invariant_of-result : goal.invariant_of-result
invariant_of-result c =
    let game = c.args.game.now in
    let last : c.loop-k.k ≡ node_count game.tree = omega (
      arith,
      c.loop-k-test.false,
      c.loop-k.auto.k-end,
      c.len-k-end.ensures.count,
      ap node_count c.tree-2.ensures.tree,
    ) in
    keeps_weights (tables_of game) c.requires.lowest game.tree c.args.expected.now c.requires.expected c.loop-k.k last c.loop-k.weighed c.loop-k.invariant
    c.sum_of_leaves.result c.sum_of_leaves.ensures

pub returns-clause-ok : goal.returns-clause-ok
returns-clause-ok c =
    let game = c.args.game.now in
    let last : c.loop-k.k ≡ node_count game.tree = omega (
      arith,
      c.loop-k-test.false,
      c.loop-k.auto.k-end,
      c.len-k-end.ensures.count,
      ap node_count c.tree-2.ensures.tree,
    ) in
    all_weighed (tables_of game) c.requires.lowest game.tree c.args.expected.now c.requires.expected c.loop-k.k last c.loop-k.weighed c.loop-k.invariant
    c.sum_of_leaves.result c.sum_of_leaves.ensures

pub returns-clause-passes : goal.returns-clause-passes
returns-clause-passes c =
    let game = c.args.game.now in
    let last : c.loop-k.k ≡ node_count game.tree = omega (
      arith,
      c.loop-k-test.false,
      c.loop-k.auto.k-end,
      c.len-k-end.ensures.count,
      ap node_count c.tree-2.ensures.tree,
    ) in
    masses_pass (tables_of game) c.requires.lowest game.tree c.args.expected.now c.requires.expected c.loop-k.k last c.loop-k.weighed c.loop-k.invariant
    c.sum_of_leaves.result c.sum_of_leaves.ensures
