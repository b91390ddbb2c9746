use Rattle.def_check.proofs.FileAccepted.{first_refused}
use Rattle.def_text_laws.proofs.check.accepting.refused_with_the_first.Goals as goal

pub returns : goal.returns
returns c = first_refused
