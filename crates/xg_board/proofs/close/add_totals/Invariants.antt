use Rattle.std.proofs.Common.{◌≡◌, length}
use Rattle.xg_jobs.specs.Rows.{all_rows}
use Rattle.xg_board.specs.Closing.{AddsTotalsBelow}
use Rattle.xg_board.proofs.close.add_totals.Given as goal

abbrev pub invariant-loop-place : goal.invariant-loop-place
invariant-loop-place g l = record {
  added : AddsTotalsBelow g.N.RowName.amount l.stripe l.place (all_rows l.initial.rows) (all_rows l.rows);
  one : length l.rows.one ≡ length l.initial.rows.one;
}
