use Rattle.def_plan.specs.Form.{player_sets}
use Rattle.xg_reply.proofs.Passes.{HasPassed}
use Rattle.xg_reply.proofs.reply.best_reply.Given as goal
use Rattle.def_plan.specs.FormRows.{amount_of}

abbrev pub invariant-loop-k : goal.invariant-loop-k
invariant-loop-k l =
    HasPassed l.player (amount_of l.rows) (player_sets l.form l.player) l.k l.into.worths l.into.reply.sets
