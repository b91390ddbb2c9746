use Rattle.std.proofs.Common.{◌<◌, length, get_or, pos, ◌+ℤ◌, map, arith, sym, ap, ◌∙◌}
use Rattle.std.specs.Int.{int_wrap, w128}
use Rattle.std.proofs.lemmas.Int.{to_z-of_z}
use Rattle.std.proofs.lemmas.List.{get_or-map, get_or-set_other, get_or-set_same, length-map, map-set}
use Rattle.xg_closer.proofs.worths.add_worth.Goals as goal
use Rattle.def_plan.specs.FormRows.{amount_of}

pub returns-clause-here : goal.returns-clause-here
returns-clause-here g c =
    let worths = map g.W.Worth.amount c.args.worths.now in
    let inside : c.args.s < length worths = omega (arith, c.requires.inside, length-map c.args.worths.now g.W.Worth.amount) in
    let read = get_or-map g.W.Worth.amount c.args.worths.now c.args.s c.index-worths-s.result (pos 0) c.requires.inside in
    ap (λ ws. amount_of ws c.args.s) (map-set g.W.Worth.amount c.args.worths.now c.args.s c.plus.result)
    ∙ get_or-set_same worths c.args.s (g.W.Worth.amount c.plus.result) (pos 0) inside
    ∙ c.plus.ensures ∙ ap (λ value. int_wrap g.W.Worth.width (g.W.Worth.amount (get_or c.args.worths.now c.args.s c.index-worths-s.result) +ℤ value))
    (to_z-of_z w128 c.args.value c.ranges.value)
    ∙ ap (λ worth. int_wrap g.W.Worth.width (worth +ℤ c.args.value)) (sym read)

pub returns-clause-others : goal.returns-clause-others
returns-clause-others g c t apart =
    ap (λ ws. amount_of ws t) (map-set g.W.Worth.amount c.args.worths.now c.args.s c.plus.result)
    ∙ get_or-set_other (map g.W.Worth.amount c.args.worths.now) c.args.s t (g.W.Worth.amount c.plus.result) (pos 0) apart
