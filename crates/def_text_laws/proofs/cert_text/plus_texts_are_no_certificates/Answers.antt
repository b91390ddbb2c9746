use Rattle.def_cert_text.proofs.PlusTexts.{no_certificates}
use Rattle.def_text_laws.proofs.cert_text.plus_texts_are_no_certificates.Goals as goal

pub returns : goal.returns
returns c = no_certificates
