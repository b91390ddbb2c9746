use Rattle.def_check.proofs.FileAccepted.{reading_is}
use Rattle.def_text_laws.proofs.check.accepting.reading_is_exact.Goals as goal

pub returns : goal.returns
returns c = reading_is
