use Rattle.std.proofs.Common.{◌≡◌, ◌≤◌, ℕ, List, length, ℤ, pos, ◌*ℤ◌, ap, sym, subst, ◌∙◌, arith}
use Rattle.def_plan.specs.Form.{InformationSet, player_sets}
use Rattle.def_plan.specs.Payoff.{IsNoBetter, gain}
use Rattle.def_plan.specs.Plan.{IsPlan, pure_plan}
use Rattle.def_reply.specs.Reply.{Reply, choices_of}
use Rattle.def_reply.proofs.BoundLaws.{best_optimal}
use Rattle.xg_reply.specs.Replies.{reply_to_sums}
use Rattle.xg_reply.proofs.Passes.{passed-more, passed-none, passed-reply, passed-worths, sizes_of_rows, sum_small}
use Rattle.xg_reply.proofs.AgainstPlans.{against_plan, is_attained_bound}
use Rattle.xg_reply.proofs.reply.best_reply.Goals as goal
use Rattle.def_plan.specs.FormRows.{amount_of}

pub loop-k-init : goal.loop-k-init
loop-k-init c =
    let sets : List InformationSet = player_sets c.args.form.now c.args.player in
    let into = c.put_rows.new.into in
    passed-none c.args.player (amount_of c.args.rows.now) sets c.set_count-k.result into.worths into.reply.sets
    c.set_count-k.ensures (ap length c.put_rows.ensures.worths ∙ c.requires.rows)
    (ap (λ q. length q.sets) c.put_rows.ensures.reply ∙ c.requires.sets)
    (λ s low. ap (λ ws. amount_of ws s) c.put_rows.ensures.worths)

pub put_reply-requires-clause-small : goal.put_reply-requires-clause-small
put_reply-requires-clause-small c =
    let sets : List InformationSet = player_sets c.args.form.now c.args.player in
    let within : c.loop-k.k ≤ length sets = omega (arith, c.set_count-k.ensures) in
    sum_small c.args.player (amount_of c.args.rows.now) sets c.put_rows.ensures.order c.loop-k.k c.loop-k-test.true
    within c.loop-k.into.worths c.loop-k.into.reply.sets c.loop-k.invariant
    (omega (arith, sizes_of_rows sets c.args.rows.now c.requires.rows, c.requires.small))

pub loop-k-preserved : goal.loop-k-preserved
loop-k-preserved c =
    let sets : List InformationSet = player_sets c.args.form.now c.args.player in
    let within : c.loop-k.k ≤ length sets = omega (arith, c.set_count-k.ensures) in
    let new = c.put_reply.new.into in
    passed-more c.args.player (amount_of c.args.rows.now) sets c.put_rows.ensures.order c.loop-k.k c.loop-k-test.true
    within c.loop-k.into.worths c.loop-k.into.reply.sets c.loop-k.invariant new.worths new.reply.sets
    c.put_reply.ensures.worths c.put_reply.ensures.sets

whole : (c : goal.After-put_total)
    → c.put_total.new.into.reply
    ≡ reply_to_sums c.args.player (amount_of c.args.rows.now) (player_sets c.args.form.now c.args.player)
whole c =
    passed-reply c.args.player (amount_of c.args.rows.now) (player_sets c.args.form.now c.args.player) c.loop-k.k
    c.loop-k-test.false c.loop-k.into.worths c.loop-k.into.reply.sets c.loop-k.invariant c.put_total.new.into.reply
    c.put_total.ensures.total c.put_total.ensures.sets

pub returns-clause-worths : goal.returns-clause-worths
returns-clause-worths c =
    c.put_total.ensures.worths
    ∙ passed-worths c.args.player (amount_of c.args.rows.now) (player_sets c.args.form.now c.args.player) c.loop-k.k
    c.loop-k-test.false c.loop-k.into.worths c.loop-k.into.reply.sets c.loop-k.invariant
    c.put_total.new.into.reply.sets c.put_total.ensures.sets

pub returns-clause-set_count : goal.returns-clause-set_count
returns-clause-set_count c = ap length c.put_total.ensures.sets ∙ c.loop-k.invariant.all_sets ∙ sym c.requires.sets

pub returns-clause-worth_count : goal.returns-clause-worth_count
returns-clause-worth_count c = ap length c.put_total.ensures.worths ∙ c.loop-k.invariant.many ∙ sym c.requires.worths

pub returns-clause-bound : goal.returns-clause-bound
returns-clause-bound c root plan is_plan =
    let sets : List InformationSet = player_sets c.args.form.now c.args.player in
    let sums : ℕ → ℤ = amount_of c.args.rows.now in
    let P : Reply → Type 0 = λ q. IsNoBetter c.args.player (gain sums sets plan) (pos root *ℤ q.total) in
    subst P (sym (whole c)) (best_optimal.bound c.args.player sums sets root plan c.put_rows.ensures.order is_plan)

pub returns-clause-choices : goal.returns-clause-choices
returns-clause-choices c =
    let sets : List InformationSet = player_sets c.args.form.now c.args.player in
    let P : Reply → Type 0 = λ q. IsPlan sets 1 (pure_plan sets (choices_of q.sets)) in
    subst P (sym (whole c))
    (best_optimal.is_plan c.args.player (amount_of c.args.rows.now) sets c.put_rows.ensures.order)

pub returns-clause-attained : goal.returns-clause-attained
returns-clause-attained c =
    let sets : List InformationSet = player_sets c.args.form.now c.args.player in
    let sums : ℕ → ℤ = amount_of c.args.rows.now in
    let P : Reply → Type 0 = λ q. gain sums sets (pure_plan sets (choices_of q.sets)) ≡ q.total in
    subst P (sym (whole c)) (best_optimal.gained c.args.player sums sets c.put_rows.ensures.order)

pub returns-clause-against : goal.returns-clause-against
returns-clause-against c plan are =
    whole c ∙ against_plan c.args.form.now c.args.player plan c.args.rows.now are

pub returns-clause-bounds : goal.returns-clause-bounds
returns-clause-bounds c plan are =
    is_attained_bound c.args.form.now c.args.player plan c.args.rows.now c.put_total.new.into.reply
    c.put_rows.ensures.order (whole c) are
