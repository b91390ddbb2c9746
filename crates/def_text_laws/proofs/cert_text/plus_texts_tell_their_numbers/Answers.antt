use Rattle.def_cert_text.proofs.PlusTexts.{plus_tell}
use Rattle.def_text_laws.proofs.cert_text.plus_texts_tell_their_numbers.Goals as goal

pub returns : goal.returns
returns c = plus_tell
