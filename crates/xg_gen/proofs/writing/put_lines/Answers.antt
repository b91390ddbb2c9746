use Rattle.std.proofs.Common.{◌+◌, ◌-◌, ◌≤◌, ◌≡◌, ◌∙◌, ℕ, List, Some, length, sym, ap, subst, arith, rules}
use Rattle.std.specs.Prelude.{slice_get}
use Rattle.std.specs.List.{zip}
use Rattle.std.specs.Io.KnownBytes.{append_known}
use Rattle.def_outside.specs.Sinks.{AppendsPrefix}
use Rattle.def_tree.specs.declared.Node.{Node}
use Rattle.def_tree.specs.Tree.{prefix}
use Rattle.def_canon.specs.Canon.{node_pieces, text_of_pieces}
use Rattle.xg_gen.proofs.NamedNodes.{line_at, line_there, lines_few}
use Rattle.xg_gen.proofs.Written.{each_step, each_fail, each_end}
use Rattle.xg_gen.proofs.writing.put_lines.Goals as goal

pub returns-in_err-put_node-clause-text : goal.returns-in_err-put_node-clause-text
returns-in_err-put_node-clause-text g c =
    let game = c.args.game.now in
    let ns = prefix game.tree in
    let i = c.nodes.i in
    let node = c.node.result in
    let name = c.node_name.result.now in
    let back : i + 1 - 1 ≡ i = omega arith in
    let en : slice_get ns i ≡ Some node = ap (slice_get ns) (sym back) ∙ ap (λ t. slice_get (prefix t) (i + 1 - 1)) (sym c.tree-tree.ensures.tree)
    ∙ c.node.ensures in
    let em : slice_get game.names i ≡ Some name = ap (slice_get game.names) (sym back) ∙ c.node_name.ensures in
    let f : (line : Node × List ℕ) → _ = λ (line : Node × List ℕ). node_pieces game.sets game.outcomes line.0 line.1 in
    let fact = each_fail f _ (g.O.Sink.written c.nodes.out) _ (zip ns game.names) i (node, name) (line_there ns game.names i node name en em)
    c.nodes.invariant.so_far
    (subst (λ (l : Node × List ℕ). AppendsPrefix (g.O.Sink.written c.nodes.out) (g.O.Sink.written c.put_node.new.out) (text_of_pieces (f l)))
    (sym (line_at ns game.names i node name en em)) c.in_err-put_node.ensures.text) in
    search (rules, fact)

pub nodes-preserved : goal.nodes-preserved
nodes-preserved g c =
    let game = c.args.game.now in
    let ns = prefix game.tree in
    let i = c.nodes.i in
    let node = c.node.result in
    let name = c.node_name.result.now in
    let back : i + 1 - 1 ≡ i = omega arith in
    let en : slice_get ns i ≡ Some node = ap (slice_get ns) (sym back) ∙ ap (λ t. slice_get (prefix t) (i + 1 - 1)) (sym c.tree-tree.ensures.tree)
    ∙ c.node.ensures in
    let em : slice_get game.names i ≡ Some name = ap (slice_get game.names) (sym back) ∙ c.node_name.ensures in
    let f : (line : Node × List ℕ) → _ = λ (line : Node × List ℕ). node_pieces game.sets game.outcomes line.0 line.1 in
    record {
      so_far = each_step f _ (g.O.Sink.written c.nodes.out) _ (zip ns game.names) i (node, name) (line_there ns game.names i node name en em)
          c.nodes.invariant.so_far
          (c.in_ok-put_node.ensures.text ∙ ap (λ (l : Node × List ℕ). append_known (g.O.Sink.written c.nodes.out) (text_of_pieces (f l)))
          (sym (line_at ns game.names i node name en em)));
      blameless = c.in_ok-put_node.ensures.cause ∙ c.nodes.invariant.blameless;
    }

pub returns-clause-text : goal.returns-clause-text
returns-clause-text g c =
    let game = c.args.game.now in
    let ns = prefix game.tree in
    let few : length (zip ns game.names) ≤ length ns = lines_few ns game.names in
    let all : length ns ≤ c.nodes.i = omega (arith, c.nodes-test.false, c.len-i-end.ensures.count, ap (λ t. length (prefix t)) c.tree-tree.ensures.tree) in
    each_end (λ (line : Node × List ℕ). node_pieces game.sets game.outcomes line.0 line.1) _ _ (zip ns game.names) c.nodes.i (omega arith)
    c.nodes.invariant.so_far
