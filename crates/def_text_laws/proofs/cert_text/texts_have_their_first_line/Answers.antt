use Rattle.def_cert_text.proofs.PlusTexts.{first_lines}
use Rattle.def_text_laws.proofs.cert_text.texts_have_their_first_line.Goals as goal

pub returns : goal.returns
returns c = first_lines
