use Rattle.std.proofs.Common.{◌≡◌, ◌-◌, drop}
use Rattle.xg_io.proofs.KnownBytesInPieces.{Progress}
use Rattle.def_file.specs.Content.{sets_of_kind}
use Rattle.def_file.specs.Faults.{set_at}
use Rattle.def_canon.specs.Canon.{action_pieces, each, text_of_pieces}
use Rattle.xg_gen.proofs.lines.put_actions.Given as goal

abbrev pub invariant-actions : goal.invariant-actions
invariant-actions g l = record {
  so_far : Progress (g.O.Sink.written l.fn.out) (g.O.Sink.written l.out)
      (text_of_pieces (each (action_pieces l.kind) (set_at (sets_of_kind l.kind l.game.sets) (l.set - 1)).actions))
      (text_of_pieces (each (action_pieces l.kind) (drop l.i (set_at (sets_of_kind l.kind l.game.sets) (l.set - 1)).actions)));
  blameless : g.O.Sink.faults l.out ≡ g.O.Sink.faults l.fn.out;
}
