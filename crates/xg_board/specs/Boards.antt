-- What a base and a board keep of their table, their jobs and their rows.
use Rattle.std.specs.Prelude.{◌≡◌, ℕ, ◌<◌, ◌≤◌, pos, [], length, slice_index_or}
use Rattle.atomic_table.specs.Table.{Me}
use Rattle.atomic_table.specs.Seated.{TableId}
use Rattle.def_sums.specs.Limits.{most_stripes}
use Rattle.xg_jobs.specs.Rows.{Amounts, all_rows}
use Rattle.xg_locked.specs.declared.view.View.{View}
use Rattle.xg_locked.specs.Rights.{number_from, whole_view}

-- the table's first seat has everything, for these jobs and stripes
pub record IsBase (table seat : TableId) (me : Me (Unit {0}) View) (jobs stripes : ℕ) : Type 0 where
  pub some : 1 ≤ stripes
  pub few : stripes ≤ most_stripes
  pub here : seat ≡ table
  pub words : 0 < table.words
  pub all : me ≡ (whole_view (number_from jobs stripes), [])

-- the table is the named one, and the rows that are handed out at the end have nothing yet
pub record IsBoard (named table : TableId) (jobs rows : ℕ) (job_count stripes locked : ℕ)
    (amounts : Amounts) : Type 0 where
  pub here : table ≡ named
  pub words : 0 < named.words
  pub jobs_is : job_count ≡ jobs
  pub rows_is : length (all_rows amounts) ≡ rows
  pub zeros : (row : ℕ) → row < rows → slice_index_or (all_rows amounts) row (pos 0) ≡ pos 0
  pub some : 1 ≤ stripes
  pub few : stripes ≤ most_stripes
  pub locked_is : locked ≡ stripes
