use Rattle.std.proofs.Common.{arith, sym, ◌∙◌}
use Rattle.def_plan.specs.Form.{player_sets}
use Rattle.xg_cert.specs.Printed.{bounds_in, plan_in}
use Rattle.xg_check.proofs.PlanTests.{no_size_left, size_agrees, size_differs}
use Rattle.xg_check.proofs.plans.first_of_other_size.Goals as goal

pub returns-then-weights-actions_of : goal.returns-then-weights-actions_of
returns-then-weights-actions_of c =
    sym (c.loop-k.invariant ∙ size_differs (player_sets c.args.form.now c.args.player) (plan_in c.args.player (bounds_in c.args.cert.now.certificate)).weights
    c.loop-k.k c.weights.result.now c.actions_of.result (omega (arith, c.loop-k-test.true, c.set_count-k-end.ensures))
    (omega (arith, c.loop-k-test.true, c.set_count-k-end.ensures, c.requires.weights)) c.weights.ensures c.actions_of.ensures c.if-weights-actions_of.true)

pub loop-k-preserved : goal.loop-k-preserved
loop-k-preserved c =
    c.loop-k.invariant ∙ size_agrees (player_sets c.args.form.now c.args.player) (plan_in c.args.player (bounds_in c.args.cert.now.certificate)).weights
    c.loop-k.k c.weights.result.now c.actions_of.result (omega (arith, c.loop-k-test.true, c.set_count-k-end.ensures))
    (omega (arith, c.loop-k-test.true, c.set_count-k-end.ensures, c.requires.weights)) c.weights.ensures c.actions_of.ensures c.if-weights-actions_of.false

pub returns : goal.returns
returns c =
    sym (c.loop-k.invariant ∙ no_size_left _ c.loop-k.k (player_sets c.args.form.now c.args.player)
    (plan_in c.args.player (bounds_in c.args.cert.now.certificate)).weights (omega (arith, c.loop-k-test.false, c.set_count-k-end.ensures))
    (omega (arith, c.loop-k-test.false, c.set_count-k-end.ensures, c.requires.weights)))
