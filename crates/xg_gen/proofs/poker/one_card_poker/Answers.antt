use Rattle.std.proofs.Common.{ap, ◌∙◌}
use Rattle.xg_game.specs.Made.{Made}
use Rattle.std.specs.Prelude.{codes}
use Rattle.std.specs.Fmt.{decimal}
use Rattle.xg_gen.proofs.Deals.{ends_there}
use Rattle.xg_gen.proofs.PokerEntriesMakeGame.{new_takes, prologue_as_made, then_game, then_whole}
use Rattle.xg_gen.proofs.poker.one_card_poker.Goals as goal

pub put_entries-requires-clause-takes : goal.put_entries-requires-clause-takes
put_entries-requires-clause-takes c =
    new_takes c.args.n c.requires.low c.requires.high c.new-maker.result (ap (λ (m : Made). m.spent) c.new-maker.ensures)
    (ap (λ (m : Made). m.contents) c.new-maker.ensures)

pub finish-requires-clause-complete : goal.finish-requires-clause-complete
finish-requires-clause-complete c =
    then_whole c.args.n c.requires.low c.requires.high c.new-maker.result c.put_entries.new.maker (ap (λ (m : Made). m.contents) c.new-maker.ensures)
    c.in-Ok.ensures

pub finish-requires-clause-unspent : goal.finish-requires-clause-unspent
finish-requires-clause-unspent c =
    ap (λ (m : Made). m.spent) c.in-Ok.ensures.same ∙ ap (λ (m : Made). m.spent) c.new-maker.ensures

pub returns-in-Ok : goal.returns-in-Ok
returns-in-Ok c =
    c.finish.ensures
    ∙ then_game c.args.n c.new-maker.result c.put_entries.new.maker (ap (λ (m : Made). m.contents) c.new-maker.ensures)
    (ap (λ (m : Made). m.prologue) c.new-maker.ensures
    ∙ prologue_as_made c.args.n _ _ _ _ (ends_there (codes "One-card poker ") (decimal c.args.n) _ c.in_ok-title.ensures)
    c.in_ok-one.ensures c.in_ok-two.ensures c.in_ok-comment.ensures)
    c.in-Ok.ensures
