use Rattle.def_cert_verdict.proofs.Sizes.{heads}
use Rattle.def_text_laws.proofs.cert_verdict.ranges.head_alone_without_rounds.Goals as goal

pub returns : goal.returns
returns c = heads
