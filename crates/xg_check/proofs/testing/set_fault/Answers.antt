use Rattle.std.proofs.Common.{sym, ◌∙◌}
use Rattle.xg_check.specs.Views.{reply_of}
use Rattle.xg_seq.specs.Table.{placed_of_row}
use Rattle.xg_check.proofs.TestLemmas.{action_fails, action_passes}
use Rattle.xg_check.proofs.testing.set_fault.Goals as goal

pub returns-then-is_better : goal.returns-then-is_better
returns-then-is_better c =
    sym (c.loop-a.invariant ∙ action_fails c.args.player c.args.rows.now c.args.set (placed_of_row c.args.h) (reply_of c.args.reply) c.loop-a.a
    c.loop-a-test.true (sym c.is_better.ensures ∙ c.if-is_better.true))

pub loop-a-preserved : goal.loop-a-preserved
loop-a-preserved c =
    c.loop-a.invariant ∙ action_passes c.args.player c.args.rows.now c.args.set (placed_of_row c.args.h) (reply_of c.args.reply) c.loop-a.a c.loop-a-test.true
    (sym c.is_better.ensures ∙ c.if-is_better.false)
