use Rattle.std.proofs.Common.{◌≡◌, ap, ◌∙◌, map}
use Rattle.xg_touched.specs.Touched.{job_rows}
use Rattle.xg_jobs.specs.Table.{TableOfJobs, leaf_table}
use Rattle.xg_jobs.proofs.table.JobTable.build.Goals as goal

pub returns-clause-table : goal.returns-clause-table
returns-clause-table c =
    let form = c.args.form.now in
    let is : c.in_ok-jobs.jobs ≡ leaf_table form c.args.tree.now = c.in_ok-jobs.ensures.table in
    let added = c.in_ok-add_rows.ensures in
    let ranges = added.ranges ∙ ap (λ (t : TableOfJobs). t.ranges) is in
    let weights = added.weights ∙ ap (λ (t : TableOfJobs). t.weights) is in
    let mass = added.mass ∙ ap (λ (t : TableOfJobs). t.mass) is in
    let touched = added.touched ∙ ap (λ (t : TableOfJobs). map (job_rows form) t.ranges) is in
    λ i. record { ranges = ranges i; weights = weights i; mass = mass i; touched = touched i }
