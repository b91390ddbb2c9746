use Rattle.std.proofs.Common.{◌≡◌, List, ℤ, ap, sym, ◌∙◌}
use Rattle.def_plan.specs.Form.{player_sets}
use Rattle.def_round.specs.Play.{play_of}
use Rattle.xg_closer.specs.Regrets.{RegretsSoFar, kept_regrets}
use Rattle.xg_closer.proofs.Closed.{same_amounts}
use Rattle.xg_closer.proofs.playing.play_into.Goals as goal

pub returns-in-Some-clause-by_regrets : goal.returns-in-Some-clause-by_regrets
returns-in-Some-clause-by_regrets c =
    let small : List ℤ = c.regrets.inside.small_regrets.items in
    let wide : List ℤ = c.regrets.inside.regrets.items in
    let kept_is : kept_regrets c.regrets.inside.most_small small wide ≡ small = ap (λ most. kept_regrets most small wide) c.in-Some.is in
    c.play_sets.ensures.by_regrets
    ∙ ap (play_of (player_sets c.args.form.now c.args.player)) (same_amounts c.deref.result.now ∙ c.deref.ensures.value ∙ sym kept_is
    ∙ ap (λ (r : RegretsSoFar). r.of_sequences) c.regrets.view_is)

pub returns-in-None-clause-by_regrets : goal.returns-in-None-clause-by_regrets
returns-in-None-clause-by_regrets c =
    let small : List ℤ = c.regrets.inside.small_regrets.items in
    let wide : List ℤ = c.regrets.inside.regrets.items in
    let kept_is : kept_regrets c.regrets.inside.most_small small wide ≡ wide = ap (λ most. kept_regrets most small wide) c.in-None.is in
    c.play_sets-in-None.ensures.by_regrets
    ∙ ap (play_of (player_sets c.args.form.now c.args.player)) (same_amounts c.deref-in-None.result.now ∙ c.deref-in-None.ensures.value ∙ sym kept_is
    ∙ ap (λ (r : RegretsSoFar). r.of_sequences) c.regrets.view_is)
