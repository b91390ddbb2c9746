use Rattle.def_cert_verdict.proofs.Sizes.{trace_products}
use Rattle.def_text_laws.proofs.cert_verdict.ranges.trace_products_are_small.Goals as goal

pub returns : goal.returns
returns c = trace_products
