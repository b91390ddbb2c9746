use Rattle.std.proofs.Common.{◌+◌, ap}
use Rattle.xg_engine.proofs.TurnsFollowRounds.{can_plan_one, can_plan_two, stands}
use Rattle.xg_engine.proofs.players.Players.make_plans.Goals as goal

pub plan_round-requires : goal.plan_round-requires
plan_round-requires c =
    let variant = c.args.variant in
    let form = c.args.form.now in
    let r = c.requires in
    let stand = stands variant form c.args.scale c.args.so_far c.args.self.now c.if-not-self.true r.ready in
    can_plan_one variant form c.args.scale c.args.so_far r.form r.some_scale r.small_scale r.few_rounds _
    (ap (λ k. k + 1) c.from-round.ensures) c.args.self.now stand

pub plan_round-requires-then-not-self : goal.plan_round-requires-then-not-self
plan_round-requires-then-not-self c =
    let variant = c.args.variant in
    let form = c.args.form.now in
    let r = c.requires in
    let stand = stands variant form c.args.scale c.args.so_far c.args.self.now c.if-not-self.true r.ready in
    can_plan_two variant form c.args.scale c.args.so_far r.form r.some_scale r.small_scale r.few_rounds _
    (ap (λ k. k + 1) c.from-round.ensures) c.args.self.now stand
