use Rattle.def_program.proofs.Meant.{meaning_computed}
use Rattle.def_text_laws.proofs.program.meaning_is_computed.Goals as goal

pub returns : goal.returns
returns c = meaning_computed
