use Rattle.std.proofs.Common.{length}
use Rattle.xg_rowcore.specs.Names.{no_table}
use Rattle.def_plan.specs.FormRows.{row_count}
use Rattle.xg_jobs.specs.JobAmounts.{job_amounts, tested}
use Rattle.xg_jobs.proofs.SmallAmountsStay.{tested_small}
use Rattle.xg_words.proofs.run.run_words.Given as goal

abbrev pub ghosts-run_named : goal.ghosts-run_named
ghosts-run_named g a =
    let jobs = length a.jobs.now.ranges in
    let rows = row_count a.input.now.form.now in
    let amount = job_amounts a.input.now.form.now a.input.now.one.now a.input.now.two.now a.jobs.now.ranges in
    record {
      jobs = jobs;
      rows = rows;
      amount = tested jobs rows amount;
      table = no_table;
      small = tested_small jobs rows amount;
    }
