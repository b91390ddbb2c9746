use Rattle.std.proofs.Common.{length}
use Rattle.def_plan.specs.FormRows.{row_count}
use Rattle.xg_jobs.specs.JobAmounts.{job_amounts, tested}
use Rattle.xg_jobs.proofs.SmallAmountsStay.{tested_small}
use Rattle.xg_rows_tests.proofs.board_tests.made_by_one_pass.Given as goal

abbrev pub ghosts-add_by_one_pass : goal.ghosts-add_by_one_pass
ghosts-add_by_one_pass g a =
    let jobs = length a.jobs.now.ranges in
    let rows = row_count a.input.now.form.now in
    let amount = job_amounts a.input.now.form.now a.input.now.one.now a.input.now.two.now a.jobs.now.ranges in
    record {
      jobs = jobs;
      rows = rows;
      amount = tested jobs rows amount;
      table = a.base.table.shared.table_id;
      small = tested_small jobs rows amount;
    }
