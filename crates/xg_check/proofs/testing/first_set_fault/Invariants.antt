use Rattle.std.proofs.Common.{◌≡◌, ◌+◌, drop}
use Rattle.def_plan.specs.Form.{placed, player_sets}
use Rattle.def_cert_verdict.specs.Verdict.{first_failing}
use Rattle.xg_plan.specs.Reply.{set_replies}
use Rattle.xg_check.proofs.TestLemmas.{tests_from}
use Rattle.xg_check.proofs.testing.first_set_fault.Given as goal

abbrev pub invariant-loop-k : goal.invariant-loop-k
invariant-loop-k l =
    first_failing (tests_from l.player l.rows 1 (placed (player_sets l.form l.player)) (set_replies l.values l.choices))
    ≡ first_failing (tests_from l.player l.rows (l.k + 1) (drop l.k (placed (player_sets l.form l.player))) (drop l.k (set_replies l.values l.choices)))
