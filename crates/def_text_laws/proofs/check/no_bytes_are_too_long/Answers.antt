use Rattle.def_check.proofs.Checked.{checked_any_length}
use Rattle.def_text_laws.proofs.check.no_bytes_are_too_long.Goals as goal

pub returns : goal.returns
returns c = checked_any_length
