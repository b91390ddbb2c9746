use Rattle.std.proofs.Common.{◌≡◌, drop}
use Rattle.std.specs.List.{zip}
use Rattle.xg_io.proofs.KnownBytesInPieces.{Progress}
use Rattle.def_tree.specs.Tree.{prefix}
use Rattle.def_canon.specs.Canon.{lines_pieces, text_of_pieces}
use Rattle.xg_gen.proofs.writing.put_lines.Given as goal

abbrev pub invariant-nodes : goal.invariant-nodes
invariant-nodes g l = record {
  so_far : Progress (g.O.Sink.written l.fn.out) (g.O.Sink.written l.out)
      (text_of_pieces (lines_pieces l.game.sets l.game.outcomes (zip (prefix l.game.tree) l.game.names)))
      (text_of_pieces (lines_pieces l.game.sets l.game.outcomes (drop l.i (zip (prefix l.game.tree) l.game.names))));
  blameless : g.O.Sink.faults l.out ≡ g.O.Sink.faults l.fn.out;
}
