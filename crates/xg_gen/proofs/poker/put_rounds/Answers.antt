use Rattle.std.proofs.Common.{ap, arith}
use Rattle.def_canon.specs.Poker.{rounds_with_cards}
use Rattle.xg_gen.proofs.Ranges.{all_cards, rounds_next, rounds_none}
use Rattle.xg_gen.proofs.EntriesTakenInPieces.{all_taken, begin, goes_on, next_takes}
use Rattle.xg_gen.proofs.poker.put_rounds.Goals as goal

pub rounds-init : goal.rounds-init
rounds-init c = begin _ _ _ c.requires.takes (ap (rounds_with_cards c.args.n) (all_cards c.args.n))

pub put_round-requires-clause-takes : goal.put_round-requires-clause-takes
put_round-requires-clause-takes c = next_takes _ _ _ _ _ _ c.rounds.invariant (rounds_next c.args.n c.rounds.i (omega (arith, c.rounds-test.true)))

pub rounds-preserved : goal.rounds-preserved
rounds-preserved c = goes_on _ _ _ _ _ _ _ c.rounds.invariant (rounds_next c.args.n c.rounds.i (omega (arith, c.rounds-test.true))) c.in_ok-put_round.ensures

pub returns : goal.returns
returns c = all_taken _ _ _ _ c.rounds.invariant (rounds_none c.args.n c.rounds.i (omega (arith, c.rounds-test.false)))
