use Rattle.std.proofs.Common.{refl, ap, ◌∙◌}
use Rattle.def_plan.specs.Form.{player_sets}
use Rattle.def_plan.specs.FormRows.{player_rows}
use Rattle.def_plan.proofs.Rows.{player_rows_are_leaf_sums}
use Rattle.def_round.specs.Round.{own_sum, regrets_after, utility}
use Rattle.def_round.proofs.OwnSums.{rounds_need_own_sums}
use Rattle.xg_closer.specs.Rows.{own_amount}
use Rattle.xg_engine.specs.Players.{regrets_kept}
use Rattle.xg_engine.proofs.players.Learner.learn.Goals as goal

pub returns : goal.returns
returns c =
    let form = c.args.form.now in
    let player = c.args.player in
    let sets = player_sets form player in
    let play = c.args.self.now.play in
    let before = c.args.self.now.regrets.of_sequences in
    let room = c.requires.room in
    record {
      room = record {
        regrets = c.cut_regrets.ensures.count ∙ c.close_round.ensures.count ∙ room.regrets;
        play = room.play;
        plan = room.plan;
        sums = room.sums;
      };
      regrets = λ against are.
          let after =
          c.close_round.ensures.regrets
          ∙ ap (λ rows. regrets_after (own_amount player rows) play sets before) are
          ∙ rounds_need_own_sums.regrets (own_amount player (player_rows form player against)) (own_sum player form.leaves against) play sets before
          (λ s low. ap (utility player) ((player_rows_are_leaf_sums form player against).each_row s low)) in
          c.cut_regrets.ensures.regrets ∙ ap (regrets_kept c.args.variant) after;
      closed = c.cut_regrets.ensures.closed ∙ c.close_round.ensures.rounds;
      sums = refl;
      plan = refl;
    }
