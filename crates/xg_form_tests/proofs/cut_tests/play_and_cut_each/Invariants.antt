use Rattle.std.proofs.Common.{◌≡◌, length}
use Rattle.xg_form_tests.proofs.cut_tests.play_and_cut_each.Given as goal

abbrev pub invariant-loop-row : goal.invariant-loop-row
invariant-loop-row g l = (length l.regrets.of_sequences ≡ length l.initial.regrets.of_sequences) × (length l.play ≡ length l.initial.play)
