use Rattle.std.proofs.Common.{◌≡◌, ℕ, ◌-◌, ◌^◌, ◌<◌, List, ℤ, ◌+ℤ◌, unsigned_abs, ap, sym, subst, ◌∙◌}
use Rattle.std.proofs.Math.ListN.{set}
use Rattle.def_plan.specs.Form.{PlacedSet, player_sets}
use Rattle.def_reply.specs.Reply.{SetReply}
use Rattle.xg_reply.specs.Replies.{placed_set}
use Rattle.xg_reply.proofs.FirstBest.{reply_of_set}
use Rattle.xg_reply.proofs.PlacedSets.{place_is}
use Rattle.xg_seq.specs.Table.{placed_of_row}
use Rattle.xg_reply.proofs.sets.put_reply.Goals as goal
use Rattle.def_plan.specs.FormRows.{amount_of}

pub add_worth-requires-clause-small : goal.add_worth-requires-clause-small
add_worth-requires-clause-small c =
    let h : PlacedSet = placed_set (player_sets c.args.form.now c.args.player) c.args.set in
    let ws : List ℤ = c.args.into.now.worths in
    let best : ℕ = c.best_sequence-best.result in
    let place = c.place_of-h in
    let is : placed_of_row place.result ≡ h = place_is (player_sets c.args.form.now c.args.player) c.args.set c.requires.from_one c.requires.there
    (placed_of_row place.result) place.ensures.place in
    let b = c.best_sequence-best.ensures in
    let reply =
    reply_of_set c.args.player (amount_of ws) h place.result.first place.result.actions best (ap (λ (p : PlacedSet). p.first) is)
    (ap (λ (p : PlacedSet). p.actions) is) b.from b.until b.best b.earliest in
    let P : ℤ → Type 0 = λ z. unsigned_abs z < 2 ^ 127 in
    subst P
    (sym (ap (λ (vs : List ℤ). amount_of vs place.result.before +ℤ amount_of vs best) c.put_choice.ensures.worths
    ∙ ap (λ p. amount_of ws p +ℤ amount_of ws best) (ap (λ (p : PlacedSet). p.before) is)
    ∙ ap (λ (r : SetReply). amount_of ws h.before +ℤ r.value) reply))
    c.requires.small

pub returns-clause-sets : goal.returns-clause-sets
returns-clause-sets c =
    let h : PlacedSet = placed_set (player_sets c.args.form.now c.args.player) c.args.set in
    let place = c.place_of-h in
    let is : placed_of_row place.result ≡ h = place_is (player_sets c.args.form.now c.args.player) c.args.set c.requires.from_one c.requires.there
    (placed_of_row place.result) place.ensures.place in
    let b = c.best_sequence-best.ensures in
    ap (λ q. q.sets) c.add_worth.ensures.reply ∙ c.put_choice.ensures.sets
    ∙ ap (set c.args.into.now.reply.sets (c.args.set - 1))
    (reply_of_set c.args.player (amount_of c.args.into.now.worths) h place.result.first place.result.actions
    c.best_sequence-best.result (ap (λ (p : PlacedSet). p.first) is) (ap (λ (p : PlacedSet). p.actions) is) b.from b.until b.best b.earliest)

pub returns-clause-worths : goal.returns-clause-worths
returns-clause-worths c =
    let h : PlacedSet = placed_set (player_sets c.args.form.now c.args.player) c.args.set in
    let ws : List ℤ = c.args.into.now.worths in
    let best : ℕ = c.best_sequence-best.result in
    let place = c.place_of-h in
    let is : placed_of_row place.result ≡ h = place_is (player_sets c.args.form.now c.args.player) c.args.set c.requires.from_one c.requires.there
    (placed_of_row place.result) place.ensures.place in
    let b = c.best_sequence-best.ensures in
    let reply =
    reply_of_set c.args.player (amount_of ws) h place.result.first place.result.actions best (ap (λ (p : PlacedSet). p.first) is)
    (ap (λ (p : PlacedSet). p.actions) is) b.from b.until b.best b.earliest in
    c.add_worth.ensures.worths
    ∙ ap (λ (vs : List ℤ). set vs place.result.before (amount_of vs place.result.before +ℤ amount_of vs best))
    c.put_choice.ensures.worths
    ∙ ap (λ p. set ws p (amount_of ws p +ℤ amount_of ws best)) (ap (λ (p : PlacedSet). p.before) is)
    ∙ ap (λ (r : SetReply). set ws h.before (amount_of ws h.before +ℤ r.value)) reply
