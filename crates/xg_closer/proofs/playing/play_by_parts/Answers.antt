use Rattle.std.proofs.Common.{◌≡◌, ℕ, ◌+◌, ◌-◌, ◌*◌, ◌/◌, List, arith, refl, sym, subst, ap, ◌∙◌, map}
use Rattle.std.proofs.Math.ListN.{set}
use Rattle.std.specs.Prelude.{ℤ}
use Rattle.def_plan.specs.Form.{PlacedSet}
use Rattle.def_round.specs.Play.{set_play, units}
use Rattle.xg_seq.specs.Table.{placed_of_row}
use Rattle.xg_closer.specs.Playing.{PlaysFirst, positive_parts}
use Rattle.xg_closer.proofs.Deals.{last_share, length-positive_parts, none_before, part_more, parts_together}
use Rattle.xg_closer.proofs.Writing.{plays_more, plays_none}
use Rattle.xg_closer.proofs.playing.play_by_parts.Goals as goal

pub loop-i-init : goal.loop-i-init
loop-i-init g c =
    let h : PlacedSet = placed_of_row c.args.place in
    let regrets : List ℤ = map g.R.Worth.amount c.args.regrets.now in (
      refl,
      sym (none_before units (positive_parts regrets h) (omega (arith, c.requires.some, c.requires.whole, parts_together regrets h))),
      plays_none h.first (set_play regrets h) c.args.play.now,
    )

pub overflow_add-sum_so_far : goal.overflow_add-sum_so_far
overflow_add-sum_so_far g c =
    let one = part_more (map g.R.Worth.amount c.args.regrets.now) (placed_of_row c.args.place) c.loop-i.i c.loop-i.sum_so_far
    c.part_of-sum_so_far.result c.args.sum (omega arith) c.requires.some c.requires.whole c.loop-i.invariant.0 c.part_of-sum_so_far.ensures in
    omega (arith, one.step.within, c.requires.small)

pub units_of-next-requires-clause-within : goal.units_of-next-requires-clause-within
units_of-next-requires-clause-within g c =
    let one = part_more (map g.R.Worth.amount c.args.regrets.now) (placed_of_row c.args.place) c.loop-i.i c.loop-i.sum_so_far
    c.part_of-sum_so_far.result c.args.sum (omega arith) c.requires.some c.requires.whole c.loop-i.invariant.0 c.part_of-sum_so_far.ensures in
    one.step.within

pub overflow_sub-next : goal.overflow_sub-next
overflow_sub-next g c =
    let one = part_more (map g.R.Worth.amount c.args.regrets.now) (placed_of_row c.args.place) c.loop-i.i c.loop-i.sum_so_far
    c.part_of-sum_so_far.result c.args.sum (omega arith) c.requires.some c.requires.whole c.loop-i.invariant.0 c.part_of-sum_so_far.ensures in
    omega (arith, one.step.grows, c.loop-i.invariant.1, c.units_of-next.ensures)

pub loop-i-preserved : goal.loop-i-preserved
loop-i-preserved g c =
    let h : PlacedSet = placed_of_row c.args.place in
    let regrets : List ℤ = map g.R.Worth.amount c.args.regrets.now in
    let one = part_more regrets h c.loop-i.i c.loop-i.sum_so_far c.part_of-sum_so_far.result c.args.sum
    (omega arith) c.requires.some c.requires.whole c.loop-i.invariant.0 c.part_of-sum_so_far.ensures in
    let shares : List ℕ = set_play regrets h in
    let next : c.units_of-next.result ≡ units * (c.loop-i.sum_so_far + c.part_of-sum_so_far.result) / c.args.sum = c.units_of-next.ensures in (
      one.step.next,
      next ∙ one.step.share_next,
      subst (PlaysFirst h.first (c.loop-i.i + 1) shares c.args.play.now) (sym c.set.ensures)
          (plays_more h.first c.loop-i.i shares c.args.play.now c.loop-i.play (c.units_of-next.result - c.loop-i.given) c.loop-i.invariant.2
          (omega (arith, c.loop-i.invariant.2.count, c.requires.as_many, c.requires.inside)) (omega (arith, one.share, next, c.loop-i.invariant.1))),
    )

pub overflow_sub-given : goal.overflow_sub-given
overflow_sub-given g c =
    let h : PlacedSet = placed_of_row c.args.place in
    let regrets : List ℤ = map g.R.Worth.amount c.args.regrets.now in
    let last = last_share units (positive_parts regrets h) c.loop-i.i (omega (arith, length-positive_parts regrets h, c.requires.some_actions))
    (omega (arith, c.requires.some, c.requires.whole, parts_together regrets h)) in
    omega (arith, last, c.loop-i.invariant.1)

pub returns : goal.returns
returns g c =
    let h : PlacedSet = placed_of_row c.args.place in
    let regrets : List ℤ = map g.R.Worth.amount c.args.regrets.now in
    let shares : List ℕ = set_play regrets h in
    let last = last_share units (positive_parts regrets h) c.loop-i.i (omega (arith, length-positive_parts regrets h, c.requires.some_actions))
    (omega (arith, c.requires.some, c.requires.whole, parts_together regrets h)) in
    let all : c.loop-i.i + 1 ≡ h.actions = omega (arith, c.requires.some_actions) in
    let at : c.args.place.actions - 1 ≡ c.loop-i.i = omega (arith, all) in
    let written : PlaysFirst h.first (c.loop-i.i + 1) shares c.args.play.now (set c.loop-i.play (h.first + c.loop-i.i) (65536 - c.loop-i.given)) =
    plays_more h.first c.loop-i.i shares c.args.play.now c.loop-i.play (65536 - c.loop-i.given) c.loop-i.invariant.2
    (omega (arith, c.loop-i.invariant.2.count, c.requires.as_many, c.requires.inside, all)) (omega (arith, last, c.loop-i.invariant.1)) in
    subst (λ n. PlaysFirst h.first n shares c.args.play.now c.set-2.new.self) all
    (subst (PlaysFirst h.first (c.loop-i.i + 1) shares c.args.play.now)
    (sym (c.set-2.ensures ∙ ap (λ i. set c.loop-i.play (h.first + i) (65536 - c.loop-i.given)) at)) written)
