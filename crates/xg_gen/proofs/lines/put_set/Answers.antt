use Rattle.std.proofs.Common.{◌-◌, [], ◌∷◌, rules}
use Rattle.def_file.specs.Content.{sets_of_kind}
use Rattle.def_file.specs.Faults.{set_at}
use Rattle.def_canon.specs.Canon.{action_pieces, close_piece, each}
use Rattle.xg_gen.proofs.ItemTokens.{set_tokens}
use Rattle.xg_gen.proofs.Written.{first_part, first_tokens, then_front, then_part, then_tokens}
use Rattle.xg_gen.proofs.lines.put_set.Goals as goal

pub returns-in_err-put_items-clause-text : goal.returns-in_err-put_items-clause-text
unfolding each
returns-in_err-put_items-clause-text g c =
    let entry = set_at (sets_of_kind c.args.kind c.args.game.now.sets) (c.args.set - 1) in
    let fact = first_tokens (g.O.Sink.written c.args.out.now) (g.O.Sink.written c.put_items.new.out) _ _ _
    (set_tokens c.args.kind entry _ _ c.set_number.ensures c.set_name.ensures) c.in_err-put_items.ensures.text in
    search (rules, fact)

pub returns-in_err-put_actions-clause-text : goal.returns-in_err-put_actions-clause-text
unfolding each
returns-in_err-put_actions-clause-text g c =
    let entry = set_at (sets_of_kind c.args.kind c.args.game.now.sets) (c.args.set - 1) in
    let fact = then_front (g.O.Sink.written c.args.out.now) (g.O.Sink.written c.put_items.new.out) (g.O.Sink.written c.put_actions.new.out) _ _ _
    (set_tokens c.args.kind entry _ _ c.set_number.ensures c.set_name.ensures) c.in_ok-put_items.ensures.text
    (first_part _ _ (each (action_pieces c.args.kind) entry.actions) (close_piece ∷ []) c.in_err-put_actions.ensures.text) in
    search (rules, fact)

pub returns-clause-text : goal.returns-clause-text
unfolding each
returns-clause-text g c =
    let entry = set_at (sets_of_kind c.args.kind c.args.game.now.sets) (c.args.set - 1) in
    then_tokens (g.O.Sink.written c.args.out.now) (g.O.Sink.written c.put_items.new.out) (g.O.Sink.written c.put_item.new.out) _ _ _ c.put_item.result
    (set_tokens c.args.kind entry _ _ c.set_number.ensures c.set_name.ensures) c.in_ok-put_items.ensures.text
    (then_part (g.O.Sink.written c.put_items.new.out) (g.O.Sink.written c.put_actions.new.out) (g.O.Sink.written c.put_item.new.out)
    (each (action_pieces c.args.kind) entry.actions) (close_piece ∷ []) c.put_item.result c.in_ok-put_actions.ensures.text c.put_item.ensures.text)
