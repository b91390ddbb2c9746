use Rattle.std.proofs.Common.{ℕ, ◌+◌, ◌-◌, ◌*◌, ◌/◌, List, arith, refl, sym, subst, ◌∙◌, map}
use Rattle.def_plan.specs.Form.{PlacedSet}
use Rattle.def_round.specs.Play.{set_play, units}
use Rattle.xg_seq.specs.Table.{placed_of_row}
use Rattle.xg_closer.specs.Playing.{PlaysFirst, positive_parts}
use Rattle.xg_closer.proofs.Deals.{even_share, length-positive_parts, parts_together}
use Rattle.xg_closer.proofs.Writing.{plays_more, plays_none}
use Rattle.xg_closer.proofs.playing.play_evenly.Goals as goal

pub loop-i-init : goal.loop-i-init
loop-i-init g c =
    let h : PlacedSet = placed_of_row c.args.place in
    (omega arith, plays_none h.first (set_play (map g.R.Worth.amount c.args.regrets.now) h) c.args.play.now)

pub loop-i-preserved : goal.loop-i-preserved
loop-i-preserved g c =
    let h : PlacedSet = placed_of_row c.args.place in
    let shares : List ℕ = set_play (map g.R.Worth.amount c.args.regrets.now) h in
    let share = even_share units (positive_parts (map g.R.Worth.amount c.args.regrets.now) h) c.loop-i.i h.actions (omega arith)
    (length-positive_parts (map g.R.Worth.amount c.args.regrets.now) h)
    (sym (parts_together (map g.R.Worth.amount c.args.regrets.now) h) ∙ c.requires.none) in (
      refl,
      subst (PlaysFirst h.first (c.loop-i.i + 1) shares c.args.play.now) (sym c.set.ensures)
          (plays_more h.first c.loop-i.i shares c.args.play.now c.loop-i.play
          (65536 * (c.loop-i.i + 1) / c.args.place.actions - c.loop-i.given) c.loop-i.invariant.1
          (omega (arith, c.loop-i.invariant.1.count, c.requires.as_many, c.requires.inside)) (omega (arith, share, c.loop-i.invariant.0))),
    )
