use Rattle.def_words.proofs.Runs.{close_with_sums}
use Rattle.def_history_laws.proofs.words.words_close_with_sums.Goals as goal

pub returns : goal.returns
returns c = close_with_sums
