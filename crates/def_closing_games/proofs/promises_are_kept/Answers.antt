use Rattle.def_closing_games.proofs.Promises.{promises_are_kept}
use Rattle.def_closing_games.proofs.promises_are_kept.Goals as goal

pub returns : goal.returns
returns c = promises_are_kept
