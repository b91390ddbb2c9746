use Rattle.std.proofs.Common.{◌≡◌, ℤ, ◌+ℤ◌, ◌-ℤ◌, map, to_z, of_z, ap, rules, ◌∙◌}
use Rattle.def_plan.specs.FormRows.{amount_of}
use Rattle.def_round.specs.Play.{regret_of}
use mir.Syntax.{w128}
use Rattle.std.specs.Int.{int_wrap}
use Rattle.std.proofs.lemmas.Int.{int_wrap_fits, to_z-of_z}
use Rattle.xg_closer.proofs.Growing.{read_back}
use Rattle.xg_closer.proofs.closing.add_regret.Goals as goal

pub minus-requires : goal.minus-requires
minus-requires g c =
    let worth_is = read_back c.worth_at.result _ (search rules) c.worth_at.ensures in
    rw (worth_is, to_z-of_z w128 c.args.value c.ranges.value) c.requires.growth

pub add_worth-requires-clause-fits : goal.add_worth-requires-clause-fits
add_worth-requires-clause-fits g c =
    let worth_is = read_back c.worth_at.result _ (search rules) c.worth_at.ensures in
    let minus_is = read_back c.minus.result _ (search rules) c.minus.ensures in
    rw (minus_is, worth_is, to_z-of_z w128 c.args.value c.ranges.value) c.requires.growth_fits

pub returns-clause-here : goal.returns-clause-here
returns-clause-here g c =
    let worth : ℤ = amount_of (map g.W.Worth.amount c.args.worths.now) c.args.s in
    let before : ℤ = regret_of (map g.R.Worth.amount c.args.regrets.now) c.args.s in
    let worth_is = read_back c.worth_at.result _ (search rules) c.worth_at.ensures in
    let minus_is = read_back c.minus.result _ (search rules) c.minus.ensures in
    let more_is : to_z w128 (of_z w128 c.minus.result) ≡ worth -ℤ c.args.value = rw (worth_is, to_z-of_z w128 c.args.value c.ranges.value) at minus_is in
    c.add_worth.ensures.here
    ∙ ap (λ more. int_wrap g.R.Worth.width (before +ℤ more)) more_is
    ∙ int_wrap_fits g.R.Worth.width (before +ℤ (worth -ℤ c.args.value)) c.requires.room
