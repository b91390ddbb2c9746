use Rattle.std.proofs.Common.{ap, arith}
use Rattle.def_canon.specs.Poker.{hands, cards_without}
use Rattle.xg_gen.proofs.Ranges.{all_cards, hands_next, hands_none}
use Rattle.xg_gen.proofs.EntriesTakenInPieces.{all_taken, begin, goes_on, next_takes}
use Rattle.xg_gen.proofs.poker.put_hands.Goals as goal

pub hands-init : goal.hands-init
hands-init c = begin _ _ _ c.requires.takes (ap (λ l. hands c.args.n c.args.i (cards_without c.args.i l)) (all_cards c.args.n))

pub put_hand-requires-clause-takes : goal.put_hand-requires-clause-takes
put_hand-requires-clause-takes c = next_takes _ _ _ _ _ _ c.hands.invariant (hands_next c.args.n c.args.i c.hands.j (omega (arith, c.hands-test.true)))

pub hands-preserved : goal.hands-preserved
hands-preserved c = goes_on _ _ _ _ _ _ _ c.hands.invariant (hands_next c.args.n c.args.i c.hands.j (omega (arith, c.hands-test.true)))
    c.in_ok-put_hand.ensures

pub returns : goal.returns
returns c = all_taken _ _ _ _ c.hands.invariant (hands_none c.args.n c.args.i c.hands.j (omega (arith, c.hands-test.false)))
