use Rattle.std.proofs.Common.{[], ◌∷◌, subst, sym, rules}
use Rattle.def_file.specs.Content.{SetMention, chance_record}
use Rattle.def_canon.specs.Poker.{entries}
use Rattle.xg_gen.specs.Taken.{GainsEntries, Takes}
use Rattle.xg_gen.proofs.Deals.{deal_one_is}
use Rattle.xg_gen.proofs.EntriesTakenInPieces.{adds_more, takes_more, takes_one}
use Rattle.xg_gen.proofs.poker.put_entries.Goals as goal

pub put_deal-requires-clause-takes : goal.put_deal-requires-clause-takes
unfolding entries
put_deal-requires-clause-takes c =
    subst (λ (s : SetMention). Takes c.args.maker.now (chance_record s ∷ []))
    (sym (deal_one_is c.args.n c.in_ok-name.name c.in_ok-name.ensures)) (takes_one _ _ _ c.requires.takes)

pub put_rounds-requires-clause-takes : goal.put_rounds-requires-clause-takes
unfolding entries
put_rounds-requires-clause-takes c =
    takes_more _ _ _ _ c.requires.takes
    (subst (λ (s : SetMention). GainsEntries c.args.maker.now c.put_deal.new.maker (chance_record s ∷ []))
    (deal_one_is c.args.n c.in_ok-name.name c.in_ok-name.ensures) c.in_ok-put_deal.ensures)

pub returns : goal.returns
unfolding entries
returns c =
    let deal = subst (λ (s : SetMention). GainsEntries c.args.maker.now c.put_deal.new.maker (chance_record s ∷ []))
    (deal_one_is c.args.n c.in_ok-name.name c.in_ok-name.ensures) c.in_ok-put_deal.ensures in
    search (rules, deal, adds_more)
