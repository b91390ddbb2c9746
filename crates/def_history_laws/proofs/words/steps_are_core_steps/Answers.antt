use Rattle.def_words.proofs.CoreRuns.{steps_lead}
use Rattle.def_history_laws.proofs.words.steps_are_core_steps.Goals as goal

pub returns : goal.returns
returns c = steps_lead
