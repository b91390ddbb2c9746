use Rattle.std.proofs.Common.{◌≡◌, ◌<◌, ℕ, length, pos}
use Rattle.std.specs.Prelude.{slice_index_or}
use Rattle.def_history.specs.History.{sum_over_jobs}
use Rattle.xg_jobs.specs.Rows.{all_rows}
use Rattle.xg_words.proofs.board.WordBoard.close.Given as goal

abbrev pub invariant-loop-row : goal.invariant-loop-row
invariant-loop-row g l = record {
  one : length l.rows.one ≡ length l.initial.rows.one;
  count : length (all_rows l.rows) ≡ g.N.RowName.rows;
  sums : (row : ℕ) → row < l.row → slice_index_or (all_rows l.rows) row (pos 0) ≡ sum_over_jobs g.N.RowName.amount g.N.RowName.jobs row;
}
