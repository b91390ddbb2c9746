use Rattle.std.proofs.Common.{length, ap, sym, ◌∙◌}
use Rattle.def_file.specs.Content.{Action}
use Rattle.xg_game.proofs.ActionLemmas.{length-actions_of}
use Rattle.xg_game.proofs.actions.KeptActions.len.Goals as goal

pub returns : goal.returns
returns c =
    c.len.ensures ∙ sym (length-actions_of c.self.inside.names c.self.inside.chances.items) ∙ ap (length {A = Action}) c.self.view_is
