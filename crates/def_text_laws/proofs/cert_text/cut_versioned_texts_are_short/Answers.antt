use Rattle.def_cert_text.proofs.CutTexts.{cut_versioned}
use Rattle.def_text_laws.proofs.cert_text.cut_versioned_texts_are_short.Goals as goal

pub returns : goal.returns
returns c = cut_versioned
