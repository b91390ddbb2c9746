use Rattle.std.proofs.Common.{◌≡◌, ◌<◌, List, ℤ, pos, length, get_or, map, sym, ap, ◌∙◌, arith}
use Rattle.std.specs.Int.{int_max}
use Rattle.std.proofs.lemmas.List.{get_or-map, length-map, map-set}
use Rattle.xg_closer.proofs.CutOneByOne.{all_cut, cut_more, cut_none}
use Rattle.xg_closer.proofs.cutting.cut_all.Goals as goal

pub loop-s-init : goal.loop-s-init
loop-s-init g c = cut_none (map g.W.Worth.amount c.args.worths.now)

pub loop-s-preserved : goal.loop-s-preserved
loop-s-preserved g c =
    let amount = g.W.Worth.amount in
    let before : List ℤ = map amount c.args.worths.now in
    let worths : List ℤ = map amount c.loop-s.worths in
    let below : c.loop-s.s < length c.loop-s.worths = omega (arith, c.loop-s-test.true, c.loop-s.auto.worths) in
    let read = get_or-map amount c.loop-s.worths c.loop-s.s c.index-worths-s.result (pos 0) below in
    let next : amount c.or_zero.result ≡ int_max (pos 0) (get_or worths c.loop-s.s (pos 0)) = c.or_zero.ensures ∙ ap (int_max (pos 0)) (sym read) in
    rw (map-set amount c.loop-s.worths c.loop-s.s c.or_zero.result)
    (cut_more before worths c.loop-s.s (amount c.or_zero.result) c.loop-s.invariant (omega (arith, below, length-map c.loop-s.worths amount)) next)

pub returns : goal.returns
returns g c =
    let amount = g.W.Worth.amount in
    all_cut (map amount c.args.worths.now) (map amount c.loop-s.worths) c.loop-s.s c.loop-s.invariant
    (omega (arith, c.loop-s-test.false, length-map c.args.worths.now amount))
