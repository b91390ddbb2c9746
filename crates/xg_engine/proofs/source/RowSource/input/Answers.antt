use Rattle.std.proofs.Common.{sym, subst}
use Rattle.xg_engine.specs.Players.{IsSmallPlan}
use Rattle.xg_engine.proofs.Growing.{numbers_of}
use Rattle.xg_engine.proofs.source.RowSource.input.Goals as goal

pub returns-clause-numbers : goal.returns-clause-numbers
returns-clause-numbers g c =
    let form = c.args.self.now.form.now in
    numbers_of form c.weights.result.now c.weights-2.result.now
    (subst (IsSmallPlan form.sets_one) (sym c.weights.ensures) c.requires.plan_one)
    (subst (IsSmallPlan form.sets_two) (sym c.weights-2.ensures) c.requires.plan_two)
