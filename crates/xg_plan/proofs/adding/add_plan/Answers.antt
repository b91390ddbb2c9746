use Rattle.std.proofs.Common.{◌≡◌, ◌*◌, ap, arith, rules, slice_index}
use Rattle.xg_plan.proofs.AddLemmas.{small_sums}
use Rattle.xg_plan.proofs.adding.add_plan.Goals as goal

pub add_weights-requires-clause-small : goal.add_weights-requires-clause-small
add_weights-requires-clause-small c =
    let one = c.requires.one_form in
    let sum_is : c.deref_mut.result.now ≡ c.args.sum.now = search rules in
    let plan_is : c.deref.result.now ≡ c.args.plan.now = search rules in
    λ s. omega (
      arith,
      small_sums one.sets c.args.sum.now c.args.plan.now c.args.times one.order one.first one.second c.requires.limit s,
      ap (λ x. slice_index x s) sum_is,
      ap (λ x. c.args.times * slice_index x s) plan_is,
    )
