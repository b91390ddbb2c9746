use Rattle.std.proofs.Common.{◌≤◌, length, ap, sym, subst, arith}
use Rattle.def_tree.specs.Rules.{Fits}
use Rattle.def_tree.specs.declared.Kind.{Kind}
use Rattle.def_tree.specs.declared.Node.{Node}
use Rattle.def_file.specs.Adding.{node_with}
use Rattle.def_file.specs.Content.{Contents, sets_of_kind}
use Rattle.xg_record.specs.Entry.{entry_seen}
use Rattle.def_file.proofs.WholeGame.{node_fits, sets_short}
use Rattle.xg_game.proofs.tables.ContentTables.keep.Goals as goal

pub push-requires-clause-fits : goal.push-requires-clause-fits
push-requires-clause-fits c =
    let node : Node = node_with c.args.self.now (entry_seen c.args.entry.now) in
    subst (Fits c.self.inside.nodes) (sym c.node_with-node.ensures)
    (subst (λ (contents : Contents). Fits contents.nodes node) (sym c.self.view_is)
    (node_fits c.args.self.now (entry_seen c.args.entry.now) c.requires.consistent c.requires.faultless))

pub note-requires-clause-room : goal.note-requires-clause-room
note-requires-clause-room c =
    let now : Contents = c.args.self.now in
    let kind : Kind = c.node_with-node.result.kind in
    let short : length (sets_of_kind kind now.sets) ≤ 1048576 = sets_short now.nodes now.names now.sets now.outcomes c.requires.consistent kind in
    omega (arith, short, ap (λ (t : Contents). length (sets_of_kind kind t.sets)) c.self.view_is)
