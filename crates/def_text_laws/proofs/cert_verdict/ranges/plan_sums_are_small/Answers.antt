use Rattle.def_cert_verdict.proofs.Sizes.{plan_sums}
use Rattle.def_text_laws.proofs.cert_verdict.ranges.plan_sums_are_small.Goals as goal

pub returns : goal.returns
returns c = plan_sums
