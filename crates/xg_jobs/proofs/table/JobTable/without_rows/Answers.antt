use Rattle.std.proofs.Common.{◌≡◌, map}
use Rattle.def_history.specs.Ranges.{job_ranges}
use Rattle.def_tree.specs.declared.Player.TheVariants.{One}
use Rattle.xg_jobs.specs.Grouping.{pair_weights}
use Rattle.xg_jobs.specs.Ranges.{range_of}
use Rattle.xg_jobs.proofs.table.JobTable.without_rows.Goals as goal

pub returns-clause-leaves : goal.returns-clause-leaves
returns-clause-leaves c = record {
  tree = c.args.tree.now;
  rules = c.facts.ensures.rules;
  form_is = c.requires;
  ranges_are = c.in_ok-ranges.ensures.ranges;
  weights_are = c.in_ok-groups.ensures.weights;
  mass_is = c.in_ok-groups.ensures.mass;
}

pub returns-clause-table : goal.returns-clause-table
returns-clause-table c =
    let form = c.args.form.now in
    let ranges : map range_of c.in_ok-ranges.ranges.items ≡ job_ranges c.args.tree.now = c.in_ok-ranges.ensures.ranges in
    let weights : c.in_ok-groups.groups.weights ≡ pair_weights form One = c.in_ok-groups.ensures.weights in
    λ i. record { ranges = ranges i; weights = weights i; mass = c.in_ok-groups.ensures.mass i; touched = c.new.ensures.items i }
