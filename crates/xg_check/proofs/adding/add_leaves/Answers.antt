use Rattle.std.proofs.Common.{◌∙◌, ◌^◌, arith}
use Rattle.def_plan.specs.Payoff.{leaf_sum}
use Rattle.xg_check.proofs.ThreadSums.{all_rows, row_more, row_stays_small}
use Rattle.xg_check.proofs.adding.add_leaves.Goals as goal

pub loop-s-preserved : goal.loop-s-preserved
loop-s-preserved c =
    let sums = leaf_sum c.args.player c.args.form.now.leaves c.args.against.now in
    let before = c.args.rows.now in
    let rows = c.loop-s.rows in
    let next = c.add_leaf_sum.new.rows in
    record {
      below = row_more c.loop-s.s before rows next sums c.loop-s.invariant.below c.add_leaf_sum.ensures.added;
      small = row_stays_small c.loop-s.s before rows next sums (2 ^ 119) c.requires.none c.loop-s.invariant.below c.loop-s.invariant.small
          c.add_leaf_sum.ensures.added c.add_leaf_sum.ensures.small;
      same = c.add_leaf_sum.ensures.same_length ∙ c.loop-s.invariant.same;
    }

pub returns-clause-sums : goal.returns-clause-sums
returns-clause-sums c =
    all_rows c.args.form.now c.args.player c.args.against.now c.loop-s.s c.args.rows.now c.loop-s.rows c.facts.ensures.sequences
    (omega (arith, c.loop-s-test.false, c.sequence_count-s-end.ensures.count)) c.loop-s.invariant.below
