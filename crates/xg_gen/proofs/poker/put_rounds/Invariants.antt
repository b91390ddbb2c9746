use Rattle.std.proofs.Common.{◌+◌, ◌-◌}
use Rattle.std.specs.List.{range_with_len}
use Rattle.def_canon.specs.Poker.{cards, rounds_with_cards}
use Rattle.xg_gen.proofs.EntriesTakenInPieces.{TookEntries}
use Rattle.xg_gen.proofs.poker.put_rounds.Given as goal

abbrev pub invariant-rounds : goal.invariant-rounds
invariant-rounds l = TookEntries l.fn.maker l.maker (rounds_with_cards l.n (cards l.n)) (rounds_with_cards l.n (range_with_len l.i (l.n + 1 - l.i)))
