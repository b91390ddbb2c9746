use Rattle.std.proofs.Common.{◌∙◌, ap}
use Rattle.def_tree.specs.declared.Player.TheVariants.{One, Two}
use Rattle.def_plan.specs.Form.{SequenceForm, player_sets}
use Rattle.def_reply.specs.Offers.{Board}
use Rattle.xg_bracket.specs.Board.{last_round, offer_of}
use Rattle.xg_form_tests.proofs.PenniesOffers.{last_is_offered, may_offer_same}
use Rattle.xg_form_tests.proofs.bracket_tests.offer.Goals as goal

pub plan_of-requires-clause-set : goal.plan_of-requires-clause-set
plan_of-requires-clause-set c = ap (λ (f : SequenceForm). player_sets f One) c.requires.form

pub plan_of-requires-2-clause-set : goal.plan_of-requires-2-clause-set
plan_of-requires-2-clause-set c = ap (λ (f : SequenceForm). player_sets f Two) c.requires.form

pub reply_of-requires : goal.reply_of-requires
reply_of-requires c = ap (λ (f : SequenceForm). player_sets f Two) c.requires.form

pub reply_of-requires-2 : goal.reply_of-requires-2
reply_of-requires-2 c = ap (λ (f : SequenceForm). player_sets f One) c.requires.form

pub offer-requires-clause-fair : goal.offer-requires-clause-fair
offer-requires-clause-fair c =
    may_offer_same c.in_ok-one.ensures c.in_ok-two.ensures c.in_ok-against_one.ensures c.in_ok-against_two.ensures c.requires.fair

pub returns-clause-round : goal.returns-clause-round
returns-clause-round c =
    ap (λ (b : Board). last_round b.trace) c.offer.ensures.board ∙
    last_is_offered c.args.board.now.board
    (offer_of c.args.board.now.variant c.args.dealt.now.round c.in_ok-one.one c.in_ok-two.two
    c.in_ok-against_one.against_one.reply c.in_ok-against_two.against_two.reply)
