use Rattle.std.proofs.Common.{◌∙◌, ap}
use Rattle.def_plus.specs.declared.Variant.TheVariants.{Plain}
use Rattle.xg_bracket.specs.Board.{last_round}
use Rattle.xg_form_tests.proofs.PenniesOffers.{first_fair, first_offer, may_offer, second_fair, second_offer}
use Rattle.xg_form_tests.proofs.bracket_tests.offer_plain.Goals as goal

pub offer-requires-clause-fair : goal.offer-requires-clause-fair
offer-requires-clause-fair c =
    may_offer c.args.board.now Plain 0 first_offer c.requires.variant c.requires.sizes (ap last_round c.requires.trace) first_fair

pub offer-requires-2-clause-fair : goal.offer-requires-2-clause-fair
offer-requires-2-clause-fair c =
    let done = c.in_ok-offer.ensures in
    may_offer c.offer.new.board Plain 1 second_offer (done.variant ∙ c.requires.variant) (done.sizes ∙ c.requires.sizes) done.round second_fair
