use Rattle.std.proofs.Common.{subst}
use Rattle.xg_sets.specs.declared.building.RecallFault.{RecallFault}
use Rattle.xg_sets.specs.Fault.{TellsBreakOf}
use Rattle.xg_numbers.proofs.numbers.sets_of.Goals as goal

pub returns-in-Err-NotRecall-clause-broken : goal.returns-in-Err-NotRecall-clause-broken
returns-in-Err-NotRecall-clause-broken c fault e =
    let arm = c.in-Err-NotRecall in
    let known = subst (λ (f : RecallFault). TellsBreakOf c.args.tree.now f) arm.field-0-is arm.ensures.broken in
    (record { node = arm.node; earlier = arm.earlier }, known, cc)
