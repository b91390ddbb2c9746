use Rattle.std.proofs.Common.{length, ap, sym, ◌∙◌}
use Rattle.def_tree.specs.declared.Player.{Player}
use Rattle.def_tree.specs.Opponent.{opponent}
use Rattle.def_plan.specs.Form.{player_sets}
use Rattle.def_reply.specs.Reply.{Reply}
use Rattle.xg_bracket.proofs.Offered.{length-best}
use Rattle.xg_search.proofs.keeping.offer.Goals as goal

pub keep-requires-clause-into : goal.keep-requires-clause-into
keep-requires-clause-into c =
    let form = c.args.form.now in
    ap (λ (r : Reply). length r.sets) c.requires.end.reply
    ∙ length-best form (opponent c.args.player) c.args.end.now.plan
    ∙ ap (λ (p : Player). length (player_sets form p)) (sym c.opponent_of-other.ensures) ∙ sym c.set_count.ensures
