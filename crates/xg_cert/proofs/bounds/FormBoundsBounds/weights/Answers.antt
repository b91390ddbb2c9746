use Rattle.std.proofs.Common.{◌≡◌, ◌+◌, ◌-◌, ◌∙◌, ℕ, List, [], ap, arith, drop, length, slice_index_or, sym, take}
use Rattle.def_plan.specs.Form.{player_sets}
use Rattle.xg_seq.specs.Table.{placed_of_row}
use Rattle.xg_cert.specs.Writable.{end_in}
use Rattle.xg_cert.proofs.FormEnds.{plan_is}
use Rattle.xg_cert.proofs.SetLines.{length-by_sets, numbers_of_set}
use Rattle.xg_cert.proofs.bounds.FormBoundsBounds.weights.Goals as goal

pub place_of-place-requires-clause-there : goal.place_of-place-requires-clause-there
place_of-place-requires-clause-there c =
    let b = c.args.self.now in
    omega (
      arith,
      c.requires.there,
      ap (λ p. length p.weights) (plan_is c.args.player b),
      length-by_sets (player_sets b.form.now c.args.player) (drop 1 (end_in c.args.player b).plan),
    )

pub returns-clause-value : goal.returns-clause-value
returns-clause-value c =
    let b = c.args.self.now in
    let place = c.place_of-place.result in
    let plan : List ℕ = (end_in c.args.player b).plan in
    let shown : c.weights.result.now ≡ plan = c.weights.ensures ∙ ap (λ e. e.plan) c.end.ensures in
    let count : place.first + place.actions - place.first ≡ place.actions = omega arith in
    ap (λ (n : ℕ). take n (drop place.first c.weights.result.now)) count
    ∙ ap (λ (ns : List ℕ). take place.actions (drop place.first ns)) shown
    ∙ sym (numbers_of_set (player_sets b.form.now c.args.player) 1 (c.args.set - 1) plan (placed_of_row place) c.place_of-place.ensures.place)
    ∙ ap (λ p. slice_index_or p.weights (c.args.set - 1) []) (sym (plan_is c.args.player b))
