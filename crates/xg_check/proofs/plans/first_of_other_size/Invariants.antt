use Rattle.std.proofs.Common.{◌≡◌, ◌+◌, drop}
use Rattle.def_plan.specs.Form.{player_sets}
use Rattle.def_cert_verdict.specs.Verdict.{first_of_other_size}
use Rattle.xg_cert.specs.Printed.{bounds_in, plan_in}
use Rattle.xg_check.proofs.plans.first_of_other_size.Given as goal

abbrev pub invariant-loop-k : goal.invariant-loop-k
invariant-loop-k l =
    first_of_other_size 1 (player_sets l.form l.player) (plan_in l.player (bounds_in l.cert.certificate)).weights
    ≡ first_of_other_size (l.k + 1) (drop l.k (player_sets l.form l.player)) (drop l.k (plan_in l.player (bounds_in l.cert.certificate)).weights)
