use Rattle.std.proofs.Common.{◌<◌, List, length, arith}
use Rattle.def_plan.specs.Form.{InformationSet}
use Rattle.xg_sets.specs.OfPlayer.{of_player}
use Rattle.xg_seq.proofs.RowLemmas.{sequences_last, stand_for_more}
use Rattle.xg_seq.proofs.rows.rows_of.Goals as goal

pub overflow_add-first : goal.overflow_add-first
overflow_add-first c =
    let sets : List InformationSet = (of_player c.args.player c.args.sets.now).sets in
    let there : c.loop-set.set < length sets = omega (arith, c.loop-set-test.true, c.count-set-end.ensures) in
    omega (
      arith,
      sequences_last sets c.loop-set.set c.actions-actions.result c.before-in-loop-set.result there c.actions-actions.ensures
          c.before-in-loop-set.ensures c.loop-set.first c.loop-set.invariant.next,
      c.requires,
    )

pub loop-set-preserved : goal.loop-set-preserved
loop-set-preserved c =
    let sets : List InformationSet = (of_player c.args.player c.args.sets.now).sets in
    let there : c.loop-set.set < length sets = omega (arith, c.loop-set-test.true, c.count-set-end.ensures) in
    let more = stand_for_more sets c.loop-set.set c.actions-actions.result c.before-in-loop-set.result there c.actions-actions.ensures
    c.before-in-loop-set.ensures c.loop-set.rows.items c.loop-set.first c.loop-set.invariant in
    rw c.in_ok-push.ensures.items more
