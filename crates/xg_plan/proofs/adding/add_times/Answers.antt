use Rattle.std.proofs.Common.{◌+◌, ◌*◌, ◌∙◌, ap, slice_index, subst, sym}
use Rattle.def_plan.specs.Plan.{IsPlan}
use Rattle.def_plus.specs.Multiple.{added_times}
use Rattle.def_plus.proofs.Multiples.{not_once, times-is_plan}
use Rattle.xg_plan.proofs.AddLemmas.{no_root_adds_nothing}
use Rattle.xg_plan.proofs.adding.add_times.Goals as goal

pub returns-clause-is_plan : goal.returns-clause-is_plan
returns-clause-is_plan c =
    λ sets root other_root is_sum is_plan.
    subst (IsPlan sets (root + c.args.times * other_root)) (sym c.add_plan.ensures)
    (times-is_plan sets root other_root c.args.sum.now c.args.plan.now c.args.times is_sum is_plan)

pub returns-clause-never : goal.returns-clause-never
returns-clause-never c =
    λ none. c.add_plan.ensures ∙ ap (added_times c.args.sum.now c.args.plan.now) none ∙ not_once c.args.sum.now c.args.plan.now c.requires.as_many

pub returns-clause-cleared : goal.returns-clause-cleared
returns-clause-cleared c =
    let one = c.requires.one_form in
    λ none. c.add_plan.ensures ∙ no_root_adds_nothing one.sets (slice_index c.args.plan.now 0) c.args.sum.now c.args.plan.now c.args.times one.second none
    c.requires.as_many
