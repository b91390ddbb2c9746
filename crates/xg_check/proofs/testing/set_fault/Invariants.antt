use Rattle.std.proofs.Common.{◌≡◌, ◌+◌, ◌-◌}
use Rattle.def_cert_verdict.specs.Verdict.{action_test, first_failing, set_tests}
use Rattle.xg_check.specs.Views.{reply_of, row}
use Rattle.xg_seq.specs.Table.{placed_of_row}
use Rattle.xg_check.proofs.TestLemmas.{from_action, last_test}
use Rattle.xg_check.proofs.testing.set_fault.Given as goal

abbrev pub invariant-loop-a : goal.invariant-loop-a
invariant-loop-a l =
    first_failing (set_tests l.player (row l.rows) l.set (placed_of_row l.h) (reply_of l.reply))
    ≡ first_failing (from_action (action_test l.player (row l.rows) l.set (placed_of_row l.h) (reply_of l.reply)) (l.a + 1) (l.h.actions - l.a)
    (last_test l.player l.rows l.set (placed_of_row l.h) (reply_of l.reply)))
