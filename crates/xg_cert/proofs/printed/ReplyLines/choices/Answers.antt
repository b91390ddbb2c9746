use Rattle.std.proofs.Common.{◌∙◌, ap, sym}
use Rattle.def_reply.specs.Reply.{choices_of}
use Rattle.xg_plan.proofs.ReplyLemmas.{choices-set_replies}
use Rattle.xg_cert.proofs.printed.ReplyLines.choices.Goals as goal

pub returns : goal.returns
returns c =
    c.deref.ensures.value ∙ sym (choices-set_replies c.self.inside.values.items c.self.inside.choices.items c.self.invariant)
    ∙ ap (λ r. choices_of r.sets) c.self.view_is
