use Rattle.std.proofs.Common.{map, arith}
use Rattle.def_canon.specs.Poker.{dealt_card, others}
use Rattle.xg_gen.proofs.Ranges.{other_pushed}
use Rattle.xg_gen.proofs.mentions.dealt_cards.Goals as goal

pub cards-preserved : goal.cards-preserved
cards-preserved c =
    other_pushed (dealt_card (c.args.choices)) c.args.n c.args.without c.cards.card c.cards.actions c.push_other.new.actions
    (map (dealt_card (c.args.choices)) (others c.args.n c.args.without)) (omega (arith, c.cards-test.true)) c.cards.invariant
    c.in_ok-push_other.ensures
