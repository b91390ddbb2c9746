use Rattle.def_cert_verdict.proofs.Sizes.{worths}
use Rattle.def_text_laws.proofs.cert_verdict.ranges.worths_are_small.Goals as goal

pub returns : goal.returns
returns c = worths
