use Rattle.std.proofs.Common.{◌≡◌, ℕ, ◌+◌, List, get_or, arith, sym, subst, ◌∙◌, map}
use Rattle.std.proofs.Math.ListN.{set}
use Rattle.def_plan.specs.Form.{PlacedSet}
use Rattle.def_round.specs.Play.{set_play, units}
use Rattle.xg_seq.specs.Table.{placed_of_row}
use Rattle.xg_closer.specs.Playing.{PlaysFirst, positive_parts}
use Rattle.xg_closer.proofs.Deals.{length-positive_parts, only_share}
use Rattle.xg_closer.proofs.Writing.{plays_more, plays_none}
use Rattle.xg_closer.proofs.playing.play_set.Goals as goal

pub returns-then-place-lt2 : goal.returns-then-place-lt2
returns-then-place-lt2 g c =
    let h : PlacedSet = placed_of_row c.args.place in
    let play : List ℕ = c.args.play.now in
    let shares : List ℕ = set_play (map g.R.Worth.amount c.args.regrets.now) h in
    let one : h.actions ≡ 1 = omega arith in
    let none : h.first + 0 ≡ h.first = omega arith in
    let share : 65536 ≡ get_or shares 0 0 = sym (only_share units (positive_parts (map g.R.Worth.amount c.args.regrets.now) h)
    (length-positive_parts (map g.R.Worth.amount c.args.regrets.now) h ∙ one)) in
    let written : PlaysFirst h.first 1 shares play (set play h.first 65536) =
    subst (λ n. PlaysFirst h.first 1 shares play (set play n 65536)) none
    (plays_more h.first 0 shares play play 65536 (plays_none h.first shares play) (omega (arith, c.requires.as_many, c.requires.inside)) share) in
    subst (λ n. PlaysFirst h.first n shares play c.set.new.self) (sym one) (subst (PlaysFirst h.first 1 shares play) (sym c.set.ensures) written)
