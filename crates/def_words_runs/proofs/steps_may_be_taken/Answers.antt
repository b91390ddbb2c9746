use Rattle.def_words_runs.proofs.Taken.{may_be_taken}
use Rattle.def_words_runs.proofs.steps_may_be_taken.Goals as goal

pub returns : goal.returns
returns c = may_be_taken
