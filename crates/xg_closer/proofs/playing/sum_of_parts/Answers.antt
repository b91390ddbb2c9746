use Rattle.std.proofs.Common.{◌≡◌, ◌+◌, arith, ap, map}
use Rattle.def_plan.specs.Form.{PlacedSet}
use Rattle.def_round.specs.Shares.{prefix_sum}
use Rattle.xg_seq.specs.Table.{placed_of_row}
use Rattle.xg_closer.specs.Playing.{positive_parts}
use Rattle.xg_closer.proofs.Deals.{sum_more, sum_of_all, sum_within}
use Rattle.xg_closer.proofs.playing.sum_of_parts.Goals as goal

pub overflow_add-sum : goal.overflow_add-sum
overflow_add-sum g c =
    let h : PlacedSet = placed_of_row c.args.place in
    omega (
      arith,
      sum_more (map g.R.Worth.amount c.args.regrets.now) h c.loop-i.i (omega arith),
      sum_within (map g.R.Worth.amount c.args.regrets.now) h (c.loop-i.i + 1),
      c.part_of-sum.ensures,
      c.loop-i.invariant,
      c.requires.small,
    )

pub loop-i-preserved : goal.loop-i-preserved
loop-i-preserved g c = omega (
  arith,
  sum_more (map g.R.Worth.amount c.args.regrets.now) (placed_of_row c.args.place) c.loop-i.i (omega arith),
  c.part_of-sum.ensures,
  c.loop-i.invariant,
)

pub returns : goal.returns
returns g c =
    let h : PlacedSet = placed_of_row c.args.place in
    let done : c.loop-i.i ≡ c.args.place.actions = omega arith in
    omega (
      arith,
      c.loop-i.invariant,
      ap (prefix_sum (positive_parts (map g.R.Worth.amount c.args.regrets.now) h)) done,
      sum_of_all (map g.R.Worth.amount c.args.regrets.now) h,
    )
