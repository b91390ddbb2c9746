use Rattle.def_words.proofs.CoreRuns.{closes_at_end}
use Rattle.def_history_laws.proofs.words.words_close_at_the_end.Goals as goal

pub returns : goal.returns
returns c = closes_at_end
