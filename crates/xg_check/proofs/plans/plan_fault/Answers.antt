use Rattle.std.proofs.Common.{length, ap, sym, ◌∙◌}
use Rattle.def_plan.specs.Form.{player_sets}
use Rattle.xg_cert.specs.Printed.{bounds_in, plan_in}
use Rattle.xg_check.proofs.PlanTests.{has_each_sequence}
use Rattle.xg_check.proofs.FirstFailingStage.{no_value}
use Rattle.xg_check.proofs.plans.plan_fault.Goals as goal

pub first_not_adding-not_adding-requires-clause-all_sequences : goal.first_not_adding-not_adding-requires-clause-all_sequences
first_not_adding-not_adding-requires-clause-all_sequences c =
    ap length c.numbers.ensures
    ∙ has_each_sequence (player_sets c.args.form.now c.args.player) (plan_in c.args.player (bounds_in c.args.cert.now.certificate))
    (sym c.first_of_other_size-other_size.ensures ∙ no_value c.first_of_other_size-other_size.result (sym c.is_some.ensures ∙ c.if-is_some.false))

pub returns-clause-whole : goal.returns-clause-whole
returns-clause-whole c = λ _.
    has_each_sequence (player_sets c.args.form.now c.args.player) (plan_in c.args.player (bounds_in c.args.cert.now.certificate))
    (sym c.first_of_other_size-other_size.ensures ∙ no_value c.first_of_other_size-other_size.result (sym c.is_some.ensures ∙ c.if-is_some.false))
