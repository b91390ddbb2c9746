use Rattle.std.proofs.Common.{List, subst}
use Rattle.std.specs.List.{All}
use Rattle.def_file.specs.Content.{SetEntry}
use Rattle.def_file.specs.Game.{IsSmallFraction, chances_of}
use Rattle.xg_game.proofs.FractionLemmas.{sets_small}
use Rattle.xg_game.proofs.sets.SetsOfKind.chances_are_small.Goals as goal

pub returns : goal.returns
returns c = subst (λ (sets : List SetEntry). All (λ (e : SetEntry). All IsSmallFraction (chances_of e)) sets) c.self.view_is
    (sets_small c.self.inside.actions c.self.inside.sets c.chances_are_small.ensures)
