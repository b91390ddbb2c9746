use Rattle.std.proofs.Common.{◌≡◌, ℕ, ◌+◌, ◌-◌, ◌*◌, ◌/◌, List, length, get_or, arith, sym, subst, ap, ◌∙◌, map}
use Rattle.std.proofs.Math.ListN.{set}
use Rattle.def_plan.specs.Form.{PlacedSet}
use Rattle.def_round.specs.Play.{positive_part, regret_of, set_play, units}
use Rattle.def_round.specs.Shares.{weight_sum}
use Rattle.xg_seq.specs.Table.{placed_of_row}
use Rattle.xg_closer.specs.Playing.{PlaysFirst, positive_parts}
use Rattle.xg_closer.proofs.Deals.{length-positive_parts, part_at, parts_of_two, parts_together, two_shares}
use Rattle.xg_closer.proofs.Writing.{plays_more, plays_none}
use Rattle.xg_closer.proofs.playing.play_two.Goals as goal

pub first_of_two-first-requires : goal.first_of_two-first-requires
first_of_two-first-requires g c =
    let h : PlacedSet = placed_of_row c.args.place in
    omega (arith, parts_of_two (map g.R.Worth.amount c.args.regrets.now) h c.requires.two, c.part_of-a.ensures, c.part_of-b.ensures, c.requires.small)

pub returns : goal.returns
returns g c =
    let h : PlacedSet = placed_of_row c.args.place in
    let ws : List ℕ = positive_parts (map g.R.Worth.amount c.args.regrets.now) h in
    let shares : List ℕ = set_play (map g.R.Worth.amount c.args.regrets.now) h in
    let play : List ℕ = c.args.play.now in
    let q : ℕ = c.first_of_two-first.result in
    let two : length ws ≡ 2 = length-positive_parts (map g.R.Worth.amount c.args.regrets.now) h ∙ c.requires.two in
    let sum : c.part_of-a.result + c.part_of-b.result ≡ weight_sum ws =
    omega (
      arith,
      parts_of_two (map g.R.Worth.amount c.args.regrets.now) h c.requires.two,
      c.part_of-a.ensures,
      c.part_of-b.ensures,
      parts_together (map g.R.Worth.amount c.args.regrets.now) h,
    ) in
    let none : h.first + 0 ≡ h.first = omega arith in
    let a_is : c.part_of-a.result ≡ get_or ws 0 0 =
    c.part_of-a.ensures ∙ ap (λ s. positive_part (regret_of (map g.R.Worth.amount c.args.regrets.now) s)) (sym none)
    ∙ part_at (map g.R.Worth.amount c.args.regrets.now) h 0 (omega (arith, c.requires.two)) in
    let dealt = two_shares units q ws two
    (λ some. c.first_of_two-first.ensures.by_parts (omega (arith, sum, some)) ∙ ap (λ n. units * n / (c.part_of-a.result + c.part_of-b.result)) a_is
    ∙ ap (λ n. units * get_or ws 0 0 / n) sum)
    (λ nothing. omega (arith, c.first_of_two-first.ensures.evenly (omega (arith, sum, nothing)))) in
    let first : PlaysFirst h.first 1 shares play (set play h.first q) =
    subst (λ n. PlaysFirst h.first 1 shares play (set play n q)) none
    (plays_more h.first 0 shares play play q (plays_none h.first shares play) (omega (arith, c.requires.as_many, c.requires.inside)) (sym dealt.0)) in
    let second : PlaysFirst h.first 2 shares play (set (set play h.first q) (h.first + 1) (65536 - q)) =
    plays_more h.first 1 shares play (set play h.first q) (65536 - q) first (omega (arith, first.count, c.requires.as_many, c.requires.inside))
    (omega (arith, dealt.1)) in
    subst (λ n. PlaysFirst h.first n shares play c.set_two.new.self) (sym c.requires.two)
    (subst (PlaysFirst h.first 2 shares play) (sym c.set_two.ensures) second)
