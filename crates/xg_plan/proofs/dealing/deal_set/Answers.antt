use Rattle.std.proofs.Common.{arith}
use Rattle.xg_plan.proofs.DealLemmas.{block_deals, block_keeps, part_whole}
use Rattle.xg_plan.proofs.dealing.deal_set.Goals as goal

pub deal_by_play-requires-clause-whole : goal.deal_by_play-requires-clause-whole
deal_by_play-requires-clause-whole c =
    part_whole c.args.units.now c.args.place.first c.args.place.actions (omega (arith, c.requires.inside, c.requires.as_many)) c.requires.all_units

pub returns-clause-earlier : goal.returns-clause-earlier
returns-clause-earlier c =
    λ s low. block_keeps c.args.weights.now c.deal_by_play.new.out _ c.args.place.first (omega (arith, c.requires.inside)) s low

pub returns-clause-dealt : goal.returns-clause-dealt
returns-clause-dealt c =
    block_deals c.args.units.now c.args.weights.now c.deal_by_play.new.out _ _ c.args.place.first c.args.place.actions c.requires.inside c.requires.as_many
    c.deal_by_play.ensures
