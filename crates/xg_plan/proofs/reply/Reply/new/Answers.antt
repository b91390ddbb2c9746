use Rattle.std.proofs.Common.{◌≡◌, pos, replicate, rules}
use Rattle.def_plan.specs.Form.{player_sets}
use Rattle.xg_plan.proofs.ReplyLemmas.{first_is}
use Rattle.xg_plan.proofs.reply.Reply.new.Goals as goal

pub returns : goal.returns
returns c =
    let values : c.in_ok-values.values.items ≡ replicate c.set_count-set_count.result (pos 0) = search rules in
    let choices : c.in_ok-choices.choices.items ≡ replicate c.set_count-set_count.result 1 = search rules in
    let worths : c.in_ok-worths.worths.items ≡ replicate c.sequence_count.result (pos 0) = search rules in
    first_is (player_sets c.args.form.now c.args.player) _ _ _ _ _ values choices worths c.set_count-set_count.ensures c.sequence_count.ensures.count
