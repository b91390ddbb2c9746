use Rattle.def_cert_text.proofs.TextLaws.{first_versioned_fault, versioned_reading}
use Rattle.xg_cert.proofs.CertificateAnswerLaws.{answer_faults, answer_first, answer_only, answer_text}
use Rattle.xg_cert.proofs.reading.read_cert.Goals as goal

pub returns-clause-text : goal.returns-clause-text
returns-clause-text c = answer_text versioned_reading c.args.bytes.now c.read_text.result c.read_text.ensures

pub returns-clause-only : goal.returns-clause-only
returns-clause-only c = answer_only versioned_reading c.args.bytes.now c.read_text.result c.read_text.ensures

pub returns-clause-first : goal.returns-clause-first
returns-clause-first c = answer_first first_versioned_fault c.args.bytes.now c.read_text.result c.read_text.ensures

pub returns-clause-faults : goal.returns-clause-faults
returns-clause-faults c = answer_faults first_versioned_fault c.args.bytes.now c.read_text.result c.read_text.ensures
