use Rattle.std.proofs.Common.{◌-◌, ◌∙◌, ap, slice_index, sym, eqb-true, eq-eqb}
use Rattle.def_plan.specs.Form.{PlacedSet, player_sets}
use Rattle.xg_plan.proofs.CheckLemmas.{part_sum}
use Rattle.xg_plan.proofs.PlaceLemmas.{is_placed_as}
use Rattle.xg_plan.proofs.checking.adds_up.Goals as goal

pub returns : goal.returns
returns c =
    let known = is_placed_as (player_sets c.args.form.now c.args.player) (c.args.set - 1) _ _ _ c.place_of-h.ensures.place c.place_of-h.ensures.inside
    c.place_of-h.ensures.some c.place_of-h.ensures.earlier in
    λ d.
    let sum = c.total.ensures ∙ part_sum (player_sets c.args.form.now c.args.player) c.args.weights.now (c.args.set - 1) _ _ _ known c.requires.as_many d in
    let before = ap (λ (h : PlacedSet). slice_index c.args.weights.now h.before) (known.is d) in
    (λ same. sym sum ∙ eqb-true _ _ same ∙ sym before, λ adds. eq-eqb _ _ (sum ∙ adds ∙ before))
