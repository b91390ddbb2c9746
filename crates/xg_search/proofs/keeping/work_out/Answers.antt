use Rattle.std.proofs.Common.{arith}
use Rattle.def_sums.specs.Limits.{most_root}
use Rattle.def_plan.specs.Form.{player_sets}
use Rattle.xg_reply.proofs.RowSizes.{small_in_evaluation, small_numbers}
use Rattle.xg_search.proofs.keeping.work_out.Goals as goal

pub write_rows_of-requires-clause-small : goal.write_rows_of-requires-clause-small
write_rows_of-requires-clause-small c =
    small_numbers (player_sets c.args.form.now c.args.player) most_root c.args.numbers.now
    (c.facts.ensures.order c.args.player) c.requires.plan (omega arith)

pub best_reply-requires-clause-small : goal.best_reply-requires-clause-small
best_reply-requires-clause-small c =
    small_in_evaluation c.args.form.now c.opponent_of-other.result c.args.numbers.now c.write_rows_of.new.rows c.write_rows_of.ensures
    (player_sets c.args.form.now c.args.player) most_root (c.facts.ensures.order c.args.player) c.requires.plan c.facts.ensures.mass (omega arith)
