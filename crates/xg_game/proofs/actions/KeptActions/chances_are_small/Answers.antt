use Rattle.std.proofs.Common.{List, subst}
use Rattle.std.specs.List.{All}
use Rattle.def_file.specs.Content.{Action}
use Rattle.def_file.specs.Game.{IsSmallFraction}
use Rattle.xg_game.proofs.FractionLemmas.{actions_small}
use Rattle.xg_game.proofs.actions.KeptActions.chances_are_small.Goals as goal

pub returns : goal.returns
returns c = subst (λ (actions : List Action). All (λ (a : Action). IsSmallFraction a.chance) actions) c.self.view_is
    (actions_small c.self.inside.names c.self.inside.chances.items c.self.invariant.small)
