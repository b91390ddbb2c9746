use Rattle.std.proofs.Common.{◌+◌, ◌-◌}
use Rattle.std.specs.List.{range_with_len}
use Rattle.def_canon.specs.Poker.{hands, others, cards_without}
use Rattle.xg_gen.proofs.EntriesTakenInPieces.{TookEntries}
use Rattle.xg_gen.proofs.poker.put_hands.Given as goal

abbrev pub invariant-hands : goal.invariant-hands
invariant-hands l = TookEntries l.fn.maker l.maker (hands l.n l.i (others l.n l.i)) (hands l.n l.i (cards_without l.i (range_with_len l.j (l.n + 1 - l.j))))
