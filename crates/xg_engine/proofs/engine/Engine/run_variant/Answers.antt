use Rattle.std.proofs.Common.{rules, ◌≡◌, ◌≤◌, ◌∙◌, Some, ap, subst}
use Rattle.std.specs.Option.{option_map}
use Rattle.def_fraction.specs.Fraction.{most}
use Rattle.def_game_numbers.specs.WholeSums.{HasWholeSum}
use Rattle.def_plus.specs.Variants.{rounds_of}
use Rattle.def_plus_run.specs.VariantRun.{outcome_of}
use Rattle.xg_engine.specs.Players.{IsSoundForm}
use Rattle.xg_engine.specs.State.{EngineState, head_with}
use Rattle.xg_engine.specs.declared.running.FinishedRun.{FinishedRun}
use Rattle.xg_engine.proofs.Left.{is_left}
use Rattle.xg_engine.proofs.engine.Engine.run_variant.Goals as goal

pub returns-clause-left : goal.returns-clause-left
returns-clause-left g c =
    let game = c.args.self.now.game in
    let settings = c.args.settings in
    let finished : FinishedRun = c.in-Ok-play.finished in
    let outcome_is : finished.outcome ≡ outcome_of c.args.variant c.args.self.now.game.form (head_with c.args.self.now.game c.args.settings) = search rules in
    let one : finished.sum_one ≡ (rounds_of c.args.variant c.args.self.now.game.form settings.scale settings.rounds).sum_one = search rules in
    let two : finished.sum_two ≡ (rounds_of c.args.variant c.args.self.now.game.form settings.scale settings.rounds).sum_two = search rules in
    let sound : IsSoundForm c.args.self.now.game.form = search rules in
    let some_unit : 1 ≤ c.args.self.now.game.unit = search rules in
    let small_unit : c.args.self.now.game.unit ≤ most = search rules in
    let whole : HasWholeSum c.args.self.now.game =
    subst (λ (state : EngineState). HasWholeSum state.game) c.self.view_is c.head_with-head.ensures.whole_sum in
    is_left c.args.variant game settings sound c.requires.limits some_unit small_unit whole _
    (ap (option_map (λ (run : FinishedRun). run.outcome)) c.leave-2.ensures ∙ ap Some outcome_is)
    (ap (option_map (λ (run : FinishedRun). record { one = run.sum_one; two = run.sum_two })) c.leave-2.ensures
    ∙ (λ i. Some (record { one = one i; two = two i })))
