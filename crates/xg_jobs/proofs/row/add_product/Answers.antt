use Rattle.std.proofs.Common.{◌<◌, length, get_or, pos, ◌+ℤ◌, ◌*ℤ◌, map, arith, sym, ap, ◌∙◌}
use Rattle.std.specs.Int.{w64}
use Rattle.std.proofs.lemmas.Int.{to_z-of_z}
use Rattle.std.proofs.lemmas.List.{get_or-map, get_or-set_other, get_or-set_same, length-map, map-set}
use Rattle.def_plan.specs.FormRows.{amount_of}
use Rattle.xg_jobs.proofs.row.add_product.Goals as goal

pub returns-clause-here : goal.returns-clause-here
returns-clause-here g c =
    let rows = map g.R.Row.amount c.args.rows.now in
    let inside : c.args.row < length rows = omega (arith, c.requires.inside, length-map c.args.rows.now g.R.Row.amount) in
    let read = get_or-map g.R.Row.amount c.args.rows.now c.args.row c.index-rows-row.result (pos 0) c.requires.inside in
    ap (λ ws. amount_of ws c.args.row) (map-set g.R.Row.amount c.args.rows.now c.args.row c.plus_product.result)
    ∙ get_or-set_same rows c.args.row (g.R.Row.amount c.plus_product.result) (pos 0) inside
    ∙ c.plus_product.ensures ∙ ap (λ w. g.R.Row.amount (get_or c.args.rows.now c.args.row c.index-rows-row.result) +ℤ (w *ℤ pos c.args.n))
    (to_z-of_z w64 c.args.w c.ranges.w)
    ∙ ap (λ v. v +ℤ (c.args.w *ℤ pos c.args.n)) (sym read)

pub returns-clause-others : goal.returns-clause-others
returns-clause-others g c b apart =
    ap (λ ws. amount_of ws b) (map-set g.R.Row.amount c.args.rows.now c.args.row c.plus_product.result)
    ∙ get_or-set_other (map g.R.Row.amount c.args.rows.now) c.args.row b (g.R.Row.amount c.plus_product.result) (pos 0) apart
