use Rattle.std.proofs.Common.{◌∙◌, ap, sym}
use Rattle.def_cert_verdict.specs.Certificate.{printed_numbers}
use Rattle.xg_cert.proofs.Cuts.{all_numbers}
use Rattle.xg_cert.proofs.printed.PlanLines.numbers.Goals as goal

pub returns : goal.returns
returns c =
    c.deref.ensures.value ∙ sym (all_numbers c.self.inside.numbers.items c.self.inside.starts.items c.self.invariant)
    ∙ ap printed_numbers c.self.view_is
