use Rattle.std.proofs.Common.{◌≡◌, ◌+◌, ◌*◌, ◌∙◌, arith, subst}
use Rattle.def_plan.specs.Plan.{IsPlan}
use Rattle.def_plus.proofs.Multiples.{added_once}
use Rattle.xg_plan.proofs.adding.add_to.Goals as goal

pub add_times-requires-clause-limit : goal.add_times-requires-clause-limit
add_times-requires-clause-limit c = omega (arith, c.requires.limit)

pub returns-clause-sum : goal.returns-clause-sum
returns-clause-sum c = c.add_times.ensures.sum ∙ added_once c.args.sum.now c.args.plan.now

pub returns-clause-is_plan : goal.returns-clause-is_plan
returns-clause-is_plan c =
    λ sets root other_root is_sum is_plan.
    let once : root + 1 * other_root ≡ root + other_root = omega arith in
    subst (λ r. IsPlan sets r c.add_times.new.sum) once (c.add_times.ensures.is_plan sets root other_root is_sum is_plan)
