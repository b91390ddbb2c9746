use Rattle.std.proofs.Common.{◌≡◌, ℕ, ◌<◌, length}
use Rattle.std.specs.Prelude.{slice_index}
use Rattle.xg_rowcore.proofs.chains.copy_front.Given as goal

abbrev pub invariant-loop-i : goal.invariant-loop-i
invariant-loop-i l = record {
  front : (place : ℕ) → place < l.i → slice_index l.into place ≡ slice_index l.from place;
  count : length l.into ≡ length l.initial.into;
}
