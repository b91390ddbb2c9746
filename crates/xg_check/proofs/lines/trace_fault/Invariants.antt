use Rattle.std.proofs.Common.{◌≡◌}
use Rattle.def_cert_verdict.specs.Verdict.{first_failing, trace_tests}
use Rattle.xg_check.proofs.TraceTests.{tests_after}
use Rattle.xg_check.proofs.lines.trace_fault.Given as goal

abbrev pub invariant-loop-k : goal.invariant-loop-k
invariant-loop-k l = first_failing (trace_tests l.first l.lines) ≡ first_failing (tests_after l.first l.k l.lines)
