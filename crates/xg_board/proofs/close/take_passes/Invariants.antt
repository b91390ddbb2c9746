use Rattle.std.proofs.Common.{◌≡◌, ◌+◌, [], length}
use Rattle.xg_locked.specs.Rights.{seen}
use Rattle.xg_board.specs.Holdings.{tickets_of}
use Rattle.xg_board.proofs.close.take_passes.Given as goal

abbrev pub invariant-loop-pass : goal.invariant-loop-pass
invariant-loop-pass g l = record {
  here : l.all.table_id ≡ g.N.RowName.table;
  view : l.all.me
      ≡ (
        seen l.initial.all.me.0.rights (l.initial.all.me.0.tickets + tickets_of l.yielded) (l.initial.all.me.0.parts + length l.yielded)
            l.initial.all.me.0.number,
        [],
      );
}
