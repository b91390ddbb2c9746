use Rattle.std.proofs.Common.{List, length, slice_get, slice_index_or, Some, ap, sym, ◌∙◌, arith}
use Rattle.def_fraction.specs.Fraction.{Fraction, zero_fraction}
use Rattle.def_file.specs.Content.{Action, action_with}
use Rattle.xg_game.proofs.ActionLemmas.{action_at, length-actions_of}
use Rattle.xg_game.proofs.actions.KeptActions.get.Goals as goal

pub get-requires : goal.get-requires
get-requires c =
    omega (arith, length-actions_of c.self.inside.names c.self.inside.chances.items, ap (length {A = Action}) c.self.view_is, c.requires)

pub returns : goal.returns
returns c =
    ap (λ (actions : List Action). slice_get actions c.args.i) (sym c.self.view_is)
    ∙ action_at c.self.inside.names c.self.inside.chances.items c.args.i c.get.result.now c.get.ensures
    ∙ ap (λ (chance : Fraction). Some (action_with c.get.result.now chance))
    (ap (λ (chances : List Fraction). slice_index_or chances c.args.i zero_fraction) (sym c.deref.ensures.value) ∙ sym c.chance_at.ensures)
