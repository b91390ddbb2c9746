use Rattle.def_cert_text.proofs.TextLines.{versioned_lines}
use Rattle.def_text_laws.proofs.cert_text.versioned_text_is_its_lines.Goals as goal

pub returns : goal.returns
returns c = versioned_lines
