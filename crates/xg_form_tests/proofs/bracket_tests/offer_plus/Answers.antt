use Rattle.std.proofs.Common.{◌∙◌, ap}
use Rattle.def_plus.specs.declared.Variant.TheVariants.{Plus}
use Rattle.xg_bracket.specs.Board.{last_round}
use Rattle.xg_form_tests.proofs.PenniesOffers.{eighth_fair, eighth_offer, first_offer, first_plus_fair, may_offer, third_fair, third_offer}
use Rattle.xg_form_tests.proofs.bracket_tests.offer_plus.Goals as goal

pub offer-requires-clause-fair : goal.offer-requires-clause-fair
offer-requires-clause-fair c =
    may_offer c.args.board.now Plus 0 first_offer c.requires.variant c.requires.sizes (ap last_round c.requires.trace) first_plus_fair

pub offer-requires-2-clause-fair : goal.offer-requires-2-clause-fair
offer-requires-2-clause-fair c =
    let done = c.in_ok-offer.ensures in
    may_offer c.offer.new.board Plus 1 third_offer (done.variant ∙ c.requires.variant) (done.sizes ∙ c.requires.sizes) done.round third_fair

pub offer-requires-3-clause-fair : goal.offer-requires-3-clause-fair
offer-requires-3-clause-fair c =
    let done = c.in_ok-offer.ensures in
    let twice = c.in_ok-offer-2.ensures in
    may_offer c.offer-2.new.board Plus 3 eighth_offer
    (twice.variant ∙ done.variant ∙ c.requires.variant)
    (twice.sizes ∙ done.sizes ∙ c.requires.sizes) twice.round eighth_fair
