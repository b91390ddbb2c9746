use Rattle.std.proofs.Common.{◌-◌, arith, sym, ◌∙◌}
use Rattle.def_cert_verdict.specs.Certificate.{no_line}
use Rattle.xg_check.proofs.TraceTests.{line_holds, line_widens, no_line_left}
use Rattle.xg_check.proofs.lines.trace_fault.Goals as goal

pub is_wider-requires-clause-later : goal.is_wider-requires-clause-later
is_wider-requires-clause-later c =
    c.requires.products c.loop-k.k (c.loop-k.k - 1) no_line c.loop-k-test.true (omega (arith, c.loop-k-test.true))

pub is_wider-requires-clause-earlier : goal.is_wider-requires-clause-earlier
is_wider-requires-clause-earlier c =
    c.requires.products (c.loop-k.k - 1) c.loop-k.k no_line (omega (arith, c.loop-k-test.true)) c.loop-k-test.true

pub returns-then-is_wider : goal.returns-then-is_wider
returns-then-is_wider c =
    sym (c.loop-k.invariant ∙ line_widens c.args.first c.args.lines.now c.loop-k.k no_line no_line c.loop-k.auto.k c.loop-k-test.true
    (sym c.is_wider.ensures ∙ c.if-is_wider.true))

pub loop-k-preserved : goal.loop-k-preserved
loop-k-preserved c =
    c.loop-k.invariant ∙ line_holds c.args.first c.args.lines.now c.loop-k.k no_line no_line c.loop-k.auto.k c.loop-k-test.true
    (sym c.is_wider.ensures ∙ c.if-is_wider.false)

pub returns : goal.returns
returns c = sym (c.loop-k.invariant ∙ no_line_left c.args.first c.args.lines.now c.loop-k.k c.loop-k.auto.k c.loop-k-test.false)
