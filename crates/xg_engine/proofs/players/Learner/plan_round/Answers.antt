use Rattle.std.proofs.Common.{length, refl, ap, sym, ◌∙◌}
use Rattle.def_plan.specs.Form.{player_sets}
use Rattle.xg_engine.specs.Players.{times_of}
use Rattle.xg_engine.proofs.Growing.{length-sum_with, one_form, within_roots}
use Rattle.xg_engine.proofs.players.Learner.plan_round.Goals as goal

pub add_plan-requires-clause-limit : goal.add_plan-requires-clause-limit
add_plan-requires-clause-limit c =
    let sets = player_sets c.args.form.now c.args.player in
    within_roots sets (times_of c.args.variant c.args.round) c.args.scale c.args.self.now.sum c.from_play.new.into c.requires.sums
    c.from_play.ensures.is_plan

pub add_plan-requires-clause-one_form : goal.add_plan-requires-clause-one_form
add_plan-requires-clause-one_form c =
    let sets = player_sets c.args.form.now c.args.player in
    one_form sets (times_of c.args.variant c.args.round) c.args.scale c.args.self.now.sum c.from_play.new.into c.requires.sums
    c.from_play.ensures.is_plan

pub returns : goal.returns
returns c =
    let room = c.requires.room in
    let plan = c.from_play.ensures.is_plan.all_sequences in
    record {
      room = record {
        regrets = room.regrets;
        play = c.play_into.ensures.count ∙ room.play;
        plan = plan;
        sums =
            ap length c.add_plan.ensures
            ∙ length-sum_with c.args.variant c.args.round c.args.self.now.sum c.from_play.new.into (room.sums ∙ sym plan)
            ∙ room.sums;
      };
      play = c.play_into.ensures.by_regrets;
      all_units = c.play_into.ensures.all_units;
      plan = c.from_play.ensures.plan;
      is_plan = c.from_play.ensures.is_plan;
      sums = c.add_plan.ensures;
      regrets = refl;
    }
