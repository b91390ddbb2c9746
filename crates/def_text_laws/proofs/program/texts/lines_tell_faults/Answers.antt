use Rattle.def_program.proofs.ReadBack.{tell_faults}
use Rattle.def_text_laws.proofs.program.texts.lines_tell_faults.Goals as goal

pub returns : goal.returns
returns c = tell_faults
