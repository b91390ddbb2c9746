use Rattle.std.proofs.Common.{◌≡◌, ◌∙◌, List, [], None, ap, subst, sym}
use Rattle.xg_io.specs.Calls.{sink_call}
use Rattle.def_fraction.specs.Fraction.{most}
use Rattle.def_plan.specs.Weighed.{WeighedGame}
use Rattle.def_reply.specs.declared.TraceLine.{TraceLine}
use Rattle.def_reply.specs.Outcome.{Head, Outcome}
use Rattle.def_cert_verdict.specs.Ranges.{IsFromTo}
use Rattle.def_game_numbers.specs.WholeSums.{IsWholeIn}
use Rattle.def_program.specs.Text.{form_of_file, game_head}
use Rattle.def_cert_accepted.specs.Writable.{IsOutcomeOf}
use Rattle.xg_engine.specs.State.{head_with}
use Rattle.xg_outcome.specs.Outcome.{head_of}
use Rattle.xg_load.specs.Endings.{Tells}
use Rattle.xg_load.proofs.Heads.{run_head_is}
use Rattle.xg_batch.proofs.PlayedTexts.{unplayed_is}
use Rattle.xg_batch.proofs.playing.play.Goals as goal

pub write_outcome-ending-requires : goal.write_outcome-ending-requires
write_outcome-ending-requires g c =
    let head : Head = head_of c.head_with.result in
    let left : Outcome = record { head = head; trace = []; ends = None } in
    let left_is : c.new-outcome.result ≡ left =
    c.new-outcome.ensures
    ∙ ap (λ (trace : List TraceLine). record { head = head; trace = trace; ends = None }) c.new.ensures.items in
    let can : IsOutcomeOf c.form.result.now left = record {
      unit = subst (λ (h : Head). IsFromTo 1 most h.unit) (sym c.head_with.ensures.exact)
          (c.head_with.ensures.positive, c.head_with.ensures.limit);
      ends = tt;
      sum = subst (λ (h : Head). IsWholeIn h.unit h.sum) (sym c.head_with.ensures.exact) c.head_with.ensures.whole_sum;
    } in
    subst (IsOutcomeOf c.form.result.now) (sym left_is) can

pub returns-then-settings-eq0 : goal.returns-then-settings-eq0
returns-then-settings-eq0 g c =
    let game = c.args.accepted in
    let settings = c.args.settings in
    let variant = c.args.variant in
    let numbers_are = c.into_numbers-numbers.ensures in
    let form_is : c.form.result.now ≡ form_of_file game =
    c.form.ensures ∙ ap (λ (numbers : WeighedGame). numbers.form) numbers_are in
    let head_is : head_of c.head_with.result ≡ game_head game settings =
    c.head_with.ensures.exact ∙ ap (λ (numbers : WeighedGame). head_with numbers settings) numbers_are
    ∙ run_head_is game settings in
    let left : Outcome = c.new-outcome.result in
    let left_is : left ≡ record { head = head_of c.head_with.result; trace = []; ends = None } =
    c.new-outcome.ensures
    ∙ ap (λ (trace : List TraceLine). record { head = head_of c.head_with.result; trace = trace; ends = None }) c.new.ensures.items in
    subst (λ text. Tells text (sink_call g.O.Sink c.args.out.now c.write_outcome-ending.new.out) c.write_outcome-ending.result)
    (unplayed_is variant game settings c.form.result.now (head_of c.head_with.result) left c.if-settings-eq0.true form_is head_is left_is)
    c.write_outcome-ending.ensures
