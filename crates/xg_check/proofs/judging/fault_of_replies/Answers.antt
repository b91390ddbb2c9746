use Rattle.std.proofs.Common.{sym, ◌∙◌}
use Rattle.def_tree.specs.declared.Player.TheVariants.{One, Two}
use Rattle.xg_cert.specs.Printed.{bounds_in}
use Rattle.xg_check.specs.Parts.{tests_of_reply}
use Rattle.xg_check.proofs.FirstFailingStage.{rest_decides}
use Rattle.xg_check.proofs.TestLemmas.{front_stops}
use Rattle.xg_check.proofs.judging.fault_of_replies.Goals as goal

pub returns-then-is_some : goal.returns-then-is_some
returns-then-is_some c =
    front_stops c.fault_of_reply-fault.result (tests_of_reply Two c.args.numbers.now (bounds_in c.args.cert.now.certificate))
    (tests_of_reply One c.args.numbers.now (bounds_in c.args.cert.now.certificate)) c.fault_of_reply-fault.ensures.fault
    (sym c.is_some.ensures ∙ c.if-is_some.true)

pub returns : goal.returns
returns c =
    c.fault_of_reply.ensures.fault
    ∙ rest_decides c.fault_of_reply-fault.result (tests_of_reply Two c.args.numbers.now (bounds_in c.args.cert.now.certificate))
    (tests_of_reply One c.args.numbers.now (bounds_in c.args.cert.now.certificate)) c.fault_of_reply-fault.ensures.fault
    (sym c.is_some.ensures ∙ c.if-is_some.false)
