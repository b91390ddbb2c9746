use Rattle.def_program.proofs.Checked.{certificates_hold}
use Rattle.def_text_laws.proofs.program.accepted_certificates_hold.Goals as goal

pub returns : goal.returns
returns c = certificates_hold
