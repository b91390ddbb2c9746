use Rattle.std.proofs.Common.{◌≡◌, sym, ◌∙◌}
use Rattle.def_cert_verdict.specs.Verdict.{first_failing, tests_below_head}
use Rattle.def_cert_versions.specs.Verdict.{first_trace_line_of, head_tests_of}
use Rattle.xg_check.proofs.FirstFailingStage.{if_ok_same, no_value, rest_decides}
use Rattle.xg_check.proofs.HeadTests.{sets_are}
use Rattle.xg_check.proofs.TestLemmas.{front_stops}
use Rattle.xg_check.proofs.judging.first_fault.Goals as goal

pub fault_below_head-requires : goal.fault_below_head-requires
fault_below_head-requires c =
    let game = c.args.numbers.now in
    let cert = c.args.cert.now.certificate in
    let found : c.head_fault-fault.result ≡ first_failing (head_tests_of c.args.cert.now.version game cert.head) =
    c.head_fault-fault.ensures ∙ (λ i. first_failing (head_tests_of (c.text_version.ensures i) game (c.head.ensures.value i))) in
    sets_are c.args.cert.now.version game cert.head (sym found ∙ no_value c.head_fault-fault.result (sym c.is_some.ensures ∙ c.if-is_some.false))

pub returns-then-is_some : goal.returns-then-is_some
returns-then-is_some c =
    let game = c.args.numbers.now in
    let cert = c.args.cert.now.certificate in
    let v = c.args.cert.now.version in
    let first = first_trace_line_of v in
    let heads = head_tests_of v game cert.head in
    let below = tests_below_head game first cert.head.scale cert.bounds in
    let found : c.head_fault-fault.result ≡ first_failing heads =
    c.head_fault-fault.ensures ∙ (λ i. first_failing (head_tests_of (c.text_version.ensures i) game (c.head.ensures.value i))) in
    front_stops c.head_fault-fault.result heads below found (sym c.is_some.ensures ∙ c.if-is_some.true)

pub returns : goal.returns
returns c =
    let game = c.args.numbers.now in
    let cert = c.args.cert.now.certificate in
    let v = c.args.cert.now.version in
    let first = first_trace_line_of v in
    let heads = head_tests_of v game cert.head in
    let below = tests_below_head game first cert.head.scale cert.bounds in
    let found : c.head_fault-fault.result ≡ first_failing heads =
    c.head_fault-fault.ensures ∙ (λ i. first_failing (head_tests_of (c.text_version.ensures i) game (c.head.ensures.value i))) in
    if_ok_same c.fault_below_head.result _ _
    (rest_decides c.head_fault-fault.result heads below found (sym c.is_some.ensures ∙ c.if-is_some.false)) c.fault_below_head.ensures
