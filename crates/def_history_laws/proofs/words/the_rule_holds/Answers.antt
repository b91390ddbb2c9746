use Rattle.def_words.proofs.Runs.{rule_holds}
use Rattle.def_history_laws.proofs.words.the_rule_holds.Goals as goal

pub returns : goal.returns
returns c = rule_holds
