use Rattle.def_words.proofs.Runs.{steps_keep}
use Rattle.def_history_laws.proofs.words.steps_keep_the_rule.Goals as goal

pub returns : goal.returns
returns c = steps_keep
