use Rattle.std.proofs.Common.{◌≡◌, ◌+◌, ◌-◌, ◌<◌, ◌∙◌, Global, Vec, ap, arith, get_or, length, pos, slice_get, subst, sym}
use Rattle.std.proofs.lemmas.List.{length-map}
use Rattle.def_game_paths.specs.Paths.{visits}
use Rattle.def_game_paths.specs.Sequences.{sequence_at}
use Rattle.def_tree.specs.declared.Kind.TheVariants.{One, Two}
use Rattle.def_tree.specs.Tree.{node_count}
use Rattle.def_sequence_form.specs.Form.{leaves_with}
use Rattle.def_game_paths.proofs.Coming.{length-visits}
use Rattle.xg_seq.specs.declared.leaf.Leaf.{Leaf}
use Rattle.xg_seq.proofs.LeafLemmas.{AreLeavesBefore, all_leaves, leaves_more, no_leaf_more, weight_there}
use Rattle.xg_seq.proofs.leaves.leaves_of.Goals as goal
use Rattle.xg_seq.proofs.leaves.leaves_of.Goals.{then-is_leaf+in_ok-push, else-is_leaf}

pub leaf_at-requires-clause-one : goal.leaf_at-requires-clause-one
leaf_at-requires-clause-one c =
    omega (
      arith,
      c.loop-k-test.true,
      c.len-k-end.ensures.count,
      ap (λ s. length s.one.at_nodes) c.requires.sets,
      length-map (visits c.args.tree.now) (sequence_at One c.args.tree.now),
      length-visits c.args.tree.now,
    )

pub leaf_at-requires-clause-two : goal.leaf_at-requires-clause-two
leaf_at-requires-clause-two c =
    omega (
      arith,
      c.loop-k-test.true,
      c.len-k-end.ensures.count,
      ap (λ s. length s.two.at_nodes) c.requires.sets,
      length-map (visits c.args.tree.now) (sequence_at Two c.args.tree.now),
      length-visits c.args.tree.now,
    )

pub leaf_at-requires-clause-place : goal.leaf_at-requires-clause-place
leaf_at-requires-clause-place c =
    omega (
      arith,
      weight_there c.args.tree.now c.len-k-end.ensures.rules c.loop-k.k (omega (arith, c.loop-k-test.true, c.len-k-end.ensures.count)) c.node.result
          c.node.ensures c.args.weights.now c.requires.weights c.loop-k.leaves.items c.loop-k.invariant
          (sym c.is_leaf.ensures ∙ c.if-is_leaf.true),
      c.len.ensures,
    )

pub loop-k-preserved : goal.loop-k-preserved
loop-k-preserved c =
    let there : c.loop-k.k < node_count c.args.tree.now = omega (arith, c.loop-k-test.true, c.len-k-end.ensures.count) in
    let Are : Vec Leaf Global → Type 0 = λ leaves. AreLeavesBefore c.args.tree.now c.args.weights.now (c.loop-k.k + 1) leaves.items in
    elim c.if-is_leaf.branch [
      | then-is_leaf+in_ok-push w ↦
          let long : w.len.result ≡ length c.loop-k.leaves.items = omega (arith, w.len.ensures) in
          subst Are (sym w.leaves-is) (subst (AreLeavesBefore c.args.tree.now c.args.weights.now (c.loop-k.k + 1)) (sym w.in_ok-push.ensures.items)
          (leaves_more c.args.tree.now c.len-k-end.ensures.rules c.loop-k.k there c.node.result c.node.ensures c.args.weights.now c.requires.weights
          c.loop-k.leaves.items c.loop-k.invariant (sym c.is_leaf.ensures ∙ w.if-is_leaf.true) w.leaf_at.result
          (ap (λ s. slice_get s.one.at_nodes (c.loop-k.k + 1 - 1)) (sym c.requires.sets) ∙ w.leaf_at.ensures.one)
          (ap (λ s. slice_get s.two.at_nodes (c.loop-k.k + 1 - 1)) (sym c.requires.sets) ∙ w.leaf_at.ensures.two)
          (w.leaf_at.ensures.weight ∙ ap (λ n. get_or c.args.weights.now n (pos 0)) long)))
      | else-is_leaf w ↦
          subst Are (sym w.leaves-is)
          (c.loop-k.invariant ∙ ap (λ vs. leaves_with c.args.tree.now vs c.args.weights.now)
          (sym (no_leaf_more c.args.tree.now c.len-k-end.ensures.rules c.loop-k.k there c.node.result c.node.ensures
          (sym c.is_leaf.ensures ∙ w.if-is_leaf.false))))
    ]

pub returns-clause-leaves : goal.returns-clause-leaves
returns-clause-leaves c =
    c.loop-k.invariant ∙ ap (λ vs. leaves_with c.args.tree.now vs c.args.weights.now)
    (all_leaves c.args.tree.now c.loop-k.k (omega (arith, c.loop-k-test.false, c.loop-k.auto.k-end, c.len-k-end.ensures.count)))
