use Rattle.std.proofs.Common.{◌≡◌, ap, ◌∙◌, map}
use Rattle.def_history.specs.Ranges.{job_ranges}
use Rattle.xg_jobs.specs.Ranges.{range_of}
use Rattle.xg_jobs.specs.Table.{TableOfJobs}
use Rattle.xg_jobs.proofs.TouchedJobs.{table_inside}
use Rattle.xg_jobs.proofs.table.JobTable.add_rows.Goals as goal

pub touched_of-requires : goal.touched_of-requires
touched_of-requires c =
    let is = c.requires in
    let known : map range_of c.deref.result.now ≡ job_ranges is.tree = ap (map range_of) c.deref.ensures.value
    ∙ ap (λ (t : TableOfJobs). t.ranges) c.self.view_is ∙ is.ranges_are in
    table_inside c.args.form.now is.tree c.deref.result.now is.form_is is.rules.tree.one known
