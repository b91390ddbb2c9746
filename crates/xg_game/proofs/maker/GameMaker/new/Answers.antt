use Rattle.std.proofs.Common.{sym, subst}
use Rattle.def_file.specs.Game.{AreTogether}
use Rattle.def_file.proofs.TablesGoWithNodes.{nothing_together}
use Rattle.xg_game.proofs.maker.GameMaker.new.Goals as goal

pub invariant_of-result : goal.invariant_of-result
invariant_of-result c = λ _. subst AreTogether (sym c.new.ensures) nothing_together
