use Rattle.def_program_laws.proofs.CertificatesAreShort.{accepted_short}
use Rattle.def_program_laws.proofs.solve_check.accepted_texts_are_short.Goals as goal

pub returns : goal.returns
returns c = accepted_short
