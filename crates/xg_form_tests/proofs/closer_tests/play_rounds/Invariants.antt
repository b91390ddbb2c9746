use Rattle.std.proofs.Common.{◌≡◌, length}
use Rattle.xg_form_tests.proofs.closer_tests.play_rounds.Given as goal

abbrev pub invariant-loop-round : goal.invariant-loop-round
invariant-loop-round g l = (length l.regrets.of_sequences ≡ length l.initial.regrets.of_sequences) × (length l.play ≡ length l.initial.play)
