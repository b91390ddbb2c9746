use Rattle.std.proofs.Common.{◌++◌, ap, subst, sym, ◌∙◌}
use Rattle.def_cert_verdict.specs.Ranges.{TraceFits}
use Rattle.def_cert_verdict.proofs.Sizes.{trace_products}
use Rattle.xg_check.proofs.ReplyTests.{bounds_fit}
use Rattle.def_cert_verdict.specs.Verdict.{first_failing, trace_tests}
use Rattle.def_cert_versions.specs.Verdict.{first_trace_line_of}
use Rattle.xg_cert.specs.Printed.{bounds_in}
use Rattle.xg_check.specs.Parts.{tests_of_plans, tests_of_replies}
use Rattle.xg_check.proofs.FirstFailingStage.{bounds_parts, rest_decides}
use Rattle.xg_check.proofs.TestLemmas.{front_stops}
use Rattle.xg_check.proofs.judging.fault_of_bounds.Goals as goal

pub returns-then-is_some : goal.returns-then-is_some
returns-then-is_some c =
    let game = c.args.numbers.now in
    let scale = c.args.cert.now.certificate.head.scale in
    let b = bounds_in c.args.cert.now.certificate in
    let first = first_trace_line_of c.args.cert.now.version in
    front_stops c.fault_of_plans-fault.result (tests_of_plans game scale b) (tests_of_replies game b ++ trace_tests first b.trace)
    c.fault_of_plans-fault.ensures.exact (sym c.is_some.ensures ∙ c.if-is_some.true)
    ∙ ap first_failing (bounds_parts game first scale b)

pub returns-then-is_some-2 : goal.returns-then-is_some-2
returns-then-is_some-2 c =
    let game = c.args.numbers.now in
    let scale = c.args.cert.now.certificate.head.scale in
    let b = bounds_in c.args.cert.now.certificate in
    let first = first_trace_line_of c.args.cert.now.version in
    front_stops c.in_ok-fault.fault (tests_of_replies game b) (trace_tests first b.trace) c.in_ok-fault.ensures (sym c.is_some-2.ensures ∙ c.if-is_some-2.true)
    ∙ rest_decides c.fault_of_plans-fault.result (tests_of_plans game scale b) (tests_of_replies game b ++ trace_tests first b.trace)
    c.fault_of_plans-fault.ensures.exact (sym c.is_some.ensures ∙ c.if-is_some.false)
    ∙ ap first_failing (bounds_parts game first scale b)

pub trace_fault-requires-clause-products : goal.trace_fault-requires-clause-products
trace_fault-requires-clause-products c = λ j k line low low'.
    let lines = c.trace.result.now in
    let cert = c.args.cert.now.certificate in
    let fits = bounds_fit cert c.facts.ensures.within.certificate (c.facts.ensures.bounds c.requires.asked) in
    trace_products cert.head lines j k line c.facts.ensures.within.certificate.head (subst (TraceFits cert.head) (sym c.trace.ensures) fits.trace) low low'

pub returns : goal.returns
returns c =
    let game = c.args.numbers.now in
    let scale = c.args.cert.now.certificate.head.scale in
    let b = bounds_in c.args.cert.now.certificate in
    let first = first_trace_line_of c.args.cert.now.version in
    c.trace_fault.ensures
    ∙ (λ i. first_failing (trace_tests ((c.first_trace_line.ensures ∙ ap first_trace_line_of c.text_version.ensures) i) (c.trace.ensures i)))
    ∙ rest_decides c.in_ok-fault.fault (tests_of_replies game b) (trace_tests first b.trace) c.in_ok-fault.ensures
    (sym c.is_some-2.ensures ∙ c.if-is_some-2.false)
    ∙ rest_decides c.fault_of_plans-fault.result (tests_of_plans game scale b) (tests_of_replies game b ++ trace_tests first b.trace)
    c.fault_of_plans-fault.ensures.exact (sym c.is_some.ensures ∙ c.if-is_some.false)
    ∙ ap first_failing (bounds_parts game first scale b)
