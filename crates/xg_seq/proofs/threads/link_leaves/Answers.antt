use Rattle.std.proofs.Common.{◌≡◌, ℕ, ◌-◌, ◌+◌, ◌<◌, List, length, get_or, map, ap, sym, subst, ◌∙◌, arith, pos}
use Rattle.std.proofs.lemmas.List.{get_or-map, length-map}
use Rattle.def_plan.specs.Form.{leaf_sequence}
use Rattle.xg_seq.specs.declared.leaf.Leaf.{Leaf}
use Rattle.xg_seq.specs.Leaves.{leaf_of}
use Rattle.xg_seq.specs.Threads.{LinksLeavesFrom}
use Rattle.xg_seq.proofs.ThreadLemmas.{linked_more}
use Rattle.xg_seq.proofs.threads.link_leaves.Goals as goal

pub loop-i-preserved : goal.loop-i-preserved
loop-i-preserved c =
    let i : ℕ = c.loop-i.i - 1 in
    let i_is : c.loop-i.i ≡ i + 1 = omega (arith, c.loop-i-test.true) in
    let leaves : List Leaf = c.args.leaves.now in
    let none : Leaf = record { seq1 = 0; seq2 = 0; w = pos 0 } in
    let below : i < length leaves = omega arith in
    let count = length-map leaves leaf_of in
    let inside : i < length (map leaf_of leaves) = omega arith in
    let is : c.sequence-s.result ≡ leaf_sequence c.args.player (get_or (map leaf_of leaves) i (leaf_of none)) =
    c.sequence-s.ensures ∙ ap (leaf_sequence c.args.player) (sym (get_or-map leaf_of leaves i none (leaf_of none) below)) in
    let known = c.requires.there i none below in
    linked_more i c.sequence-s.result c.args.player (map leaf_of leaves) (leaf_of none) inside is c.loop-i.first c.loop-i.next (omega arith)
    (omega (arith, known, c.sequence-s.ensures))
    (subst (λ k. LinksLeavesFrom k c.args.player (map leaf_of leaves) c.loop-i.first c.loop-i.next) i_is c.loop-i.invariant)
