use Rattle.std.proofs.Common.{◌≡◌, ◌<◌, ◌∙◌, List, ap, arith, length, sym}
use Rattle.def_plan.specs.Form.{PlacedSet, placed, player_sets}
use Rattle.def_plan.proofs.BadSets.{length-placed}
use Rattle.def_reply.specs.Reply.{SetReply}
use Rattle.def_cert_verdict.specs.Verdict.{first_failing}
use Rattle.xg_plan.specs.Reply.{set_replies}
use Rattle.xg_check.specs.Views.{reply_of}
use Rattle.xg_seq.specs.Table.{placed_of_row}
use Rattle.xg_check.proofs.AddLemmas.{there_is}
use Rattle.xg_check.proofs.TestLemmas.{no_set, reply_there, set_passes, set_stops}
use Rattle.xg_plan.proofs.ReplyLemmas.{length-set_replies}
use Rattle.xg_check.proofs.testing.first_set_fault.Goals as goal

pub returns-then-is_some : goal.returns-then-is_some
returns-then-is_some c =
    let k = c.loop-k.k in
    let hs : List PlacedSet = placed (player_sets c.args.form.now c.args.player) in
    let vs = c.args.values.now in
    let cs = c.args.choices.now in
    let h : PlacedSet = placed_of_row c.place_of-h.result in
    let r : SetReply = reply_of c.reply_at-reply.result in
    let long = length-placed 1 (player_sets c.args.form.now c.args.player) in
    let equal : length vs ≡ length cs = omega (arith, c.requires.values, c.requires.choices) in
    let below : k < length vs = omega (arith, c.loop-k-test.true, c.set_count-k-end.ensures, c.requires.values) in
    set_stops c.args.player c.args.rows.now hs (set_replies vs cs) k h r c.set_fault-fault.result (omega (arith, below, long, c.requires.values))
    (omega (arith, below, length-set_replies vs cs (sym equal))) (there_is hs k h h c.place_of-h.ensures.place)
    (reply_there vs cs k r equal below ∙ sym c.reply_at-reply.ensures) c.set_fault-fault.ensures (sym c.is_some.ensures ∙ c.if-is_some.true)
    ∙ sym c.loop-k.invariant

pub loop-k-preserved : goal.loop-k-preserved
loop-k-preserved c =
    let k = c.loop-k.k in
    let hs : List PlacedSet = placed (player_sets c.args.form.now c.args.player) in
    let vs = c.args.values.now in
    let cs = c.args.choices.now in
    let h : PlacedSet = placed_of_row c.place_of-h.result in
    let r : SetReply = reply_of c.reply_at-reply.result in
    let long = length-placed 1 (player_sets c.args.form.now c.args.player) in
    let equal : length vs ≡ length cs = omega (arith, c.requires.values, c.requires.choices) in
    let below : k < length vs = omega (arith, c.loop-k-test.true, c.set_count-k-end.ensures, c.requires.values) in
    c.loop-k.invariant
    ∙ set_passes c.args.player c.args.rows.now hs (set_replies vs cs) k h r c.set_fault-fault.result (omega (arith, below, long, c.requires.values))
    (omega (arith, below, length-set_replies vs cs (sym equal))) (there_is hs k h h c.place_of-h.ensures.place)
    (reply_there vs cs k r equal below ∙ sym c.reply_at-reply.ensures) c.set_fault-fault.ensures (sym c.is_some.ensures ∙ c.if-is_some.false)

pub returns : goal.returns
returns c =
    let sets = player_sets c.args.form.now c.args.player in
    let vs = c.args.values.now in
    let cs = c.args.choices.now in
    let equal : length vs ≡ length cs = omega (arith, c.requires.values, c.requires.choices) in
    sym (c.loop-k.invariant ∙ ap first_failing (no_set c.args.player c.args.rows.now (placed sets) (set_replies vs cs) c.loop-k.k
    (omega (arith, c.loop-k-test.false, c.set_count-k-end.ensures, length-placed 1 sets))
    (omega (arith, c.loop-k-test.false, c.set_count-k-end.ensures, c.requires.values, length-set_replies vs cs (sym equal)))))
