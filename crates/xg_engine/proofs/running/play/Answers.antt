use Rattle.std.proofs.Common.{ap, sym, ◌∙◌}
use Rattle.def_reply.specs.Offers.{board_after}
use Rattle.def_run.specs.Run.{offers_in, outcome_with}
use Rattle.def_plus_run.specs.VariantRun.{run_of}
use Rattle.xg_outcome.specs.Outcome.{head_of}
use Rattle.xg_engine.proofs.running.play.Goals as goal

pub returns-in-Ok-play_rounds-clause-outcome : goal.returns-in-Ok-play_rounds-clause-outcome
returns-in-Ok-play_rounds-clause-outcome g c =
    let form = c.args.source.now.form.now in
    let settings = c.args.settings in
    let variant = c.args.variant in
    let head = head_of c.args.head in
    let asked = c.requires.head in
    c.finish.ensures.outcome ∙ ap (outcome_with head) c.in-Ok-play_rounds.ensures.board
    ∙ (λ i. outcome_with head (board_after (offers_in form (run_of variant form (sym asked.scale i)) (sym asked.every i) (sym asked.rounds i))))

pub returns-in-Ok-play_rounds-clause-sum_one : goal.returns-in-Ok-play_rounds-clause-sum_one
returns-in-Ok-play_rounds-clause-sum_one g c = c.finish.ensures.sum_one ∙ c.in-Ok-play_rounds.ensures.stand.one.sums_are

pub returns-in-Ok-play_rounds-clause-sum_two : goal.returns-in-Ok-play_rounds-clause-sum_two
returns-in-Ok-play_rounds-clause-sum_two g c = c.finish.ensures.sum_two ∙ c.in-Ok-play_rounds.ensures.stand.two.sums_are
