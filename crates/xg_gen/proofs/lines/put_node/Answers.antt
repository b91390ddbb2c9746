use Rattle.std.proofs.Common.{rules}
use Rattle.def_canon.specs.Canon.{each, outcome_pieces, place_pieces}
use Rattle.xg_gen.proofs.ItemTokens.{node_tokens}
use Rattle.xg_gen.proofs.Written.{first_part, first_tokens, then_front, then_part, then_tokens}
use Rattle.xg_gen.proofs.lines.put_node.Goals as goal

pub returns-in_err-put_items-clause-text : goal.returns-in_err-put_items-clause-text
unfolding each
returns-in_err-put_items-clause-text g c =
    let game = c.args.game.now in
    let fact = first_tokens (g.O.Sink.written c.args.out.now) (g.O.Sink.written c.put_items.new.out) _ _ _
    (node_tokens game.sets game.outcomes c.args.node c.args.name.now) c.in_err-put_items.ensures.text in
    search (rules, fact)

pub returns-in_err-put_place-clause-text : goal.returns-in_err-put_place-clause-text
unfolding each
returns-in_err-put_place-clause-text g c =
    let game = c.args.game.now in
    let fact = then_front (g.O.Sink.written c.args.out.now) (g.O.Sink.written c.put_items.new.out) (g.O.Sink.written c.put_place.new.out) _ _ _
    (node_tokens game.sets game.outcomes c.args.node c.args.name.now) c.in_ok-put_items.ensures.text
    (first_part _ _ (place_pieces c.args.node.kind game.sets c.args.node.set) (outcome_pieces game.outcomes c.args.node.outcome)
    c.in_err-put_place.ensures.text) in
    search (rules, fact)

pub returns-clause-text : goal.returns-clause-text
unfolding each
returns-clause-text g c =
    let game = c.args.game.now in
    then_tokens (g.O.Sink.written c.args.out.now) (g.O.Sink.written c.put_items.new.out) (g.O.Sink.written c.put_outcome.new.out) _ _ _ c.put_outcome.result
    (node_tokens game.sets game.outcomes c.args.node c.args.name.now) c.in_ok-put_items.ensures.text
    (then_part (g.O.Sink.written c.put_items.new.out) (g.O.Sink.written c.put_place.new.out) (g.O.Sink.written c.put_outcome.new.out)
    (place_pieces c.args.node.kind game.sets c.args.node.set) (outcome_pieces game.outcomes c.args.node.outcome) c.put_outcome.result
    c.in_ok-put_place.ensures.text c.put_outcome.ensures.text)
