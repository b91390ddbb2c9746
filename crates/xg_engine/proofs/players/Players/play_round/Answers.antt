use Rattle.std.proofs.Common.{◌+◌, ◌∙◌, arith, ap, false, refl, sym}
use Rattle.std.proofs.lemmas.Bool.{true≢false}
use Rattle.def_tree.specs.declared.Player.TheVariants.{One, Two}
use Rattle.def_plan.specs.FormRows.{player_rows}
use Rattle.xg_jobs.specs.Rows.{ArePlainSums, HaveSmallRows}
use Rattle.xg_engine.specs.declared.players.Players.{Players}
use Rattle.xg_engine.specs.Turns.{plan_after}
use Rattle.xg_engine.proofs.TurnsFollowRounds.{can_go_on_one, can_go_on_two, can_learn_one, can_learn_two, of_plans, of_these_plans, ready, turns_lead_on, turns_make_ready}
use Rattle.xg_engine.proofs.players.Players.play_round.Goals as goal

pub take_turns-requires-clause-one : goal.take_turns-requires-clause-one
take_turns-requires-clause-one g c κs within =
    let variant = c.args.variant in
    let form = c.args.source.now.form.now in
    let scale = c.args.scale in
    let n = c.args.so_far in
    let r = c.requires in
    let between = c.make_plans.new.self in
    let rows = c.small_rows.ensures.sums c.if-small_rows.true in
    let next = ap (λ k. k + 2) c.from.ensures in
    record {
      learn = can_learn_one variant form scale n between c.make_plans.ensures r.source.form r.small_scale r.few_rounds _ _ rows.one rows.two;
      plan = λ goes_on. can_go_on_one variant form scale n between c.make_plans.ensures r.source.form r.some_scale r.small_scale
          (r.few_more goes_on) _ (omega (arith, next));
    }

pub take_turns-requires-clause-two : goal.take_turns-requires-clause-two
take_turns-requires-clause-two g c κs within =
    let variant = c.args.variant in
    let form = c.args.source.now.form.now in
    let scale = c.args.scale in
    let n = c.args.so_far in
    let r = c.requires in
    let between = c.make_plans.new.self in
    let rows = c.small_rows.ensures.sums c.if-small_rows.true in
    let next = ap (λ k. k + 2) c.from.ensures in
    record {
      learn = can_learn_two variant form scale n between c.make_plans.ensures r.source.form r.small_scale r.few_rounds _ _ rows.one rows.two;
      plan = λ goes_on. can_go_on_two variant form scale n between c.make_plans.ensures r.source.form r.some_scale r.small_scale
          (r.few_more goes_on) _ (omega (arith, next));
    }

pub returns-then-small_rows-clause-ready : goal.returns-then-small_rows-clause-ready
returns-then-small_rows-clause-ready g c =
    let variant = c.args.variant in
    let form = c.args.source.now.form.now in
    let scale = c.args.scale in
    let n = c.args.so_far in
    let r = c.requires in
    let between = c.make_plans.new.self in
    let rows = c.small_rows.ensures.sums c.if-small_rows.true in
    let next = ap (λ k. k + 2) c.from.ensures in
    turns_make_ready variant form scale n between c.make_plans.ensures _ _ rows.one rows.two _ (omega (arith, next)) c.args.goes_on
    (record { one = c.take_turns.new.one; two = c.take_turns.new.two; rows = c.small_rows.new.rows; have_plans = c.args.goes_on })
    c.take_turns.ensures.one c.take_turns.ensures.two
    (c.small_rows.ensures.count_one ∙ c.make_plans.ensures.rows_one) (c.small_rows.ensures.count_two ∙ c.make_plans.ensures.rows_two)

pub returns-then-small_rows-clause-small : goal.returns-then-small_rows-clause-small
returns-then-small_rows-clause-small g c made have =
    of_plans c.args.variant c.args.source.now.form.now c.args.scale c.args.so_far c.make_plans.new.self c.make_plans.ensures
    (λ one two. ArePlainSums c.args.source.now.form.now one two c.small_rows.new.rows) (c.small_rows.ensures.sums c.if-small_rows.true)

pub learn-requires : goal.learn-requires
learn-requires g c =
    let variant = c.args.variant in
    let form = c.args.source.now.form.now in
    let scale = c.args.scale in
    let n = c.args.so_far in
    let r = c.requires in
    let between = c.make_plans.new.self in
    can_learn_one variant form scale n between c.make_plans.ensures r.source.form r.small_scale r.few_rounds _ _
    (◌∙◌ {c = player_rows form One between.two.plan} c.one.ensures c.in-Ok.ensures.one) c.in-Ok.ensures.two

pub learn-requires-2 : goal.learn-requires-2
learn-requires-2 g c =
    let variant = c.args.variant in
    let form = c.args.source.now.form.now in
    let scale = c.args.scale in
    let n = c.args.so_far in
    let r = c.requires in
    let between = c.make_plans.new.self in
    can_learn_two variant form scale n between c.make_plans.ensures r.source.form r.small_scale r.few_rounds _ _
    c.in-Ok.ensures.one (◌∙◌ {c = player_rows form Two between.one.plan} c.two.ensures c.in-Ok.ensures.two)

pub returns-clause-ready : goal.returns-clause-ready
returns-clause-ready g c =
    let variant = c.args.variant in
    let form = c.args.source.now.form.now in
    let scale = c.args.scale in
    let n = c.args.so_far in
    let r = c.requires in
    let between = c.make_plans.new.self in
    let after : Players = record { one = c.learn.new.self; two = c.learn-2.new.self; rows = c.small_rows.new.rows; have_plans = false } in
    ready variant form scale (n + 1) after refl
    (turns_lead_on variant form scale n between c.make_plans.ensures _ _ (◌∙◌ {c = player_rows form One between.two.plan} c.one.ensures c.in-Ok.ensures.one)
    (◌∙◌ {c = player_rows form Two between.one.plan} c.two.ensures c.in-Ok.ensures.two) after c.learn.ensures c.learn-2.ensures
    (c.small_rows.ensures.count_one ∙ c.make_plans.ensures.rows_one) (c.small_rows.ensures.count_two ∙ c.make_plans.ensures.rows_two))

pub returns-clause-small : goal.returns-clause-small
returns-clause-small g c made have =
    let form = c.args.source.now.form.now in
    let have_small =
    of_these_plans c.args.variant form c.args.scale c.args.so_far c.make_plans.new.self c.make_plans.ensures (HaveSmallRows form) have in
    let one = plan_after c.args.variant form One c.args.scale c.args.so_far in
    let two = plan_after c.args.variant form Two c.args.scale c.args.so_far in
    absurd {A = ArePlainSums form one two c.small_rows.new.rows} (true≢false (sym (c.small_rows.ensures.small.1 (made, have_small)) ∙ c.if-small_rows.false))
