use Rattle.xg_sets.specs.OfPlayer.{of_player}
use Rattle.xg_seq.proofs.RowLemmas.{StandFor}
use Rattle.xg_seq.proofs.rows.rows_of.Given as goal

abbrev pub invariant-loop-set : goal.invariant-loop-set
invariant-loop-set l = StandFor (of_player l.player l.sets).sets l.set l.rows.items l.first
