use Rattle.std.proofs.Common.{subst, sym}
use Rattle.def_sums.specs.Limits.{most_scale}
use Rattle.def_plan.specs.Form.{player_sets}
use Rattle.def_plan.specs.Plan.{IsPlan}
use Rattle.xg_search.proofs.FirstPlans.{of_one_form}
use Rattle.xg_search.proofs.first.enlarge.Goals as goal

pub add_times-requires-clause-one_form : goal.add_times-requires-clause-one_form
add_times-requires-clause-one_form c =
    of_one_form (player_sets c.args.form.now c.args.player) most_scale c.copy_from.new.self c.args.part.now
    (c.facts.ensures.order c.args.player) c.requires.part c.copy_from.ensures

pub returns : goal.returns
returns c =
    let sets = player_sets c.args.form.now c.args.player in
    let copied = subst (IsPlan sets most_scale) (sym c.copy_from.ensures) c.requires.part in
    c.add_times.ensures.is_plan sets most_scale most_scale copied c.requires.part
