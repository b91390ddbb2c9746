use Rattle.std.proofs.Common.{refl}
use Rattle.std.specs.Fmt.{digits}
use Rattle.def_text_laws.proofs.program.texts.fault_line_rows.Goals as goal

pub returns : goal.returns
unfolding digits
returns c = record { syntax = refl; number = refl; players = refl; mismatch = refl; recall = refl }
