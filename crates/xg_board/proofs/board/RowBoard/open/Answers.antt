use Rattle.std.proofs.Common.{◌<◌, ◌∙◌, subst}
use Rattle.atomic_table.specs.Seated.{TableId}
use Rattle.xg_jobs.proofs.NewRowsAreZero.{fresh_count, fresh_zeros}
use Rattle.xg_board.proofs.board.RowBoard.open.Goals as goal

pub invariant_of-board : goal.invariant_of-board
invariant_of-board g c =
    let base = c.args.base.kept in
    record {
      kept = record {
        here = c.requires.table;
        words = subst (λ (t : TableId). 0 < t.words) c.requires.table base.words;
        jobs_is = c.requires.base ∙ c.requires.jobs;
        rows_is = fresh_count _ _ _ c.in_ok-rows.ensures.one c.in_ok-rows.ensures.two ∙ c.requires.rows;
        zeros = λ row below. fresh_zeros _ _ _ c.in_ok-rows.ensures.one c.in_ok-rows.ensures.two row;
        some = base.some;
        few = base.few;
        locked_is = c.in_ok-locked.ensures.stripes;
      };
    }
