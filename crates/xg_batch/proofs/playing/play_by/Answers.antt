use Rattle.std.proofs.Common.{◌≡◌, ap, ◌∙◌, subst}
use Rattle.xg_io.specs.Calls.{sink_call}
use Rattle.def_plan.specs.Weighed.{WeighedGame}
use Rattle.def_plus_run.specs.VariantRun.{outcome_of}
use Rattle.def_program.specs.Text.{form_of_file}
use Rattle.def_game_numbers.specs.Weighed.{weighed_game}
use Rattle.xg_engine.specs.State.{head_with}
use Rattle.xg_load.specs.Endings.{Tells}
use Rattle.xg_batch.proofs.PlayedTexts.{played_is, same_outcome}
use Rattle.xg_batch.proofs.playing.play_by.Goals as goal

pub returns-in-Some : goal.returns-in-Some
returns-in-Some g c = λ game opened.
    let settings = c.args.settings in
    let variant = c.args.variant in
    let kept : c.play_rounds.new.engine.game ≡ weighed_game game = c.in-Ok.ensures.game ∙ opened in
    let form_is : c.form.result.now ≡ form_of_file game =
    c.form.ensures ∙ ap (λ (numbers : WeighedGame). numbers.form) kept in
    let left_is : c.in-Some.outcome.now ≡ outcome_of variant (form_of_file game) (head_with (weighed_game game) settings) =
    same_outcome c.in-Some.outcome.now
    (outcome_of variant c.args.engine.now.game.form (head_with c.args.engine.now.game settings))
    (c.in-Some.ensures ∙ c.in-Ok.ensures.left.outcome)
    ∙ (λ i. outcome_of variant (opened i).form (head_with (opened i) settings)) in
    subst (λ text. Tells text (sink_call g.O.Sink c.args.out.now c.write_outcome.new.out) c.write_outcome.result)
    (played_is variant game settings c.form.result.now c.in-Some.outcome.now form_is left_is) c.write_outcome.ensures
