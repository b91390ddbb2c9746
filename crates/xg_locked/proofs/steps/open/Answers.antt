use Rattle.xg_locked.proofs.Moves.{opens}
use Rattle.xg_locked.proofs.steps.open.Goals as goal

pub of_words-requires : goal.of_words-requires
of_words-requires c = opens c.args.number
