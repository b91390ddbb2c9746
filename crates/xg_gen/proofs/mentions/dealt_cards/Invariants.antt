use Rattle.std.proofs.Common.{◌≡◌, ◌+◌, ◌-◌, ◌++◌, map}
use Rattle.std.specs.List.{range_with_len}
use Rattle.def_canon.specs.Poker.{dealt_card, others, cards_without}
use Rattle.xg_gen.proofs.mentions.dealt_cards.Given as goal

abbrev pub invariant-cards : goal.invariant-cards
invariant-cards l = l.actions ++ map (dealt_card (l.choices)) (cards_without l.without (range_with_len l.card (l.n + 1 - l.card)))
    ≡ map (dealt_card (l.choices)) (others l.n l.without)
