use Rattle.std.proofs.Common.{◌≡◌, ◌+◌, length, true, false, ap, subst, arith, ◌∙◌, sym}
use Rattle.std.proofs.lemmas.Bool.{not_from_true, true≢false}
use Rattle.def_reply.specs.Offers.{Board, board_after, offered}
use Rattle.xg_engine.specs.Evaluations.{AreSumsAfter, CanEvaluate, best_offer}
use Rattle.xg_engine.proofs.Growing.{sums_of_players}
use Rattle.xg_engine.proofs.Offering.{due_at_last, due_in_turn, evaluated_once_more, is_due, last_is_now, offers_same, one_more, room_for_more}
use Rattle.xg_engine.proofs.TurnsFollowRounds.{stands}
use Rattle.xg_engine.proofs.running.Run.step.Goals as goal
use Rattle.xg_engine.proofs.running.Run.step.Goals.{then-round-settings-eq0, else-round-settings-eq0}

pub evaluate-requires-clause-plans : goal.evaluate-requires-clause-plans
evaluate-requires-clause-plans g c κs within =
    let form = c.args.source.now.form.now in
    let settings = c.args.settings in
    let n = c.args.so_far in
    let limits = c.requires.limits in
    let players = c.play_round.new.self in
    let told = c.in-Ok.ensures in
    let none = told.stops (not_from_true _ c.if-is_evaluated.true) in
    let stand = stands c.args.variant form settings.scale (n + 1) players none told.ready in
    subst (λ v. AreSumsAfter v form (n + 1) players.one.sum players.two.sum) (sym c.requires.run.room.variant_is)
    (sums_of_players c.args.variant form settings.scale c.requires.source.form limits.some_scale limits.small_scale
    (n + 1) players stand (omega arith) (omega (arith, c.requires.next, limits.few_rounds)))

pub evaluate-requires-clause-room : goal.evaluate-requires-clause-room
evaluate-requires-clause-room g c κs within =
    let form = c.args.source.now.form.now in
    let settings = c.args.settings in
    let n = c.args.so_far in
    let due : is_due c.args.variant form settings (n + 1) ≡ true =
    elim c.if-round-settings-eq0.branch [
      | then-round-settings-eq0 w ↦ due_in_turn c.args.variant form settings n w.if-round-settings-eq0.true ∙ sym w.is_evaluated-is
      | else-round-settings-eq0 w ↦ due_at_last c.args.variant form settings n w.if-round-settings-eq0.false ∙ sym w.is_evaluated-is
    ] ∙ c.if-is_evaluated.true in
    let run = c.requires.run in
    omega (
      arith,
      ap (λ (b : Board). length b.trace) run.board,
      run.room.capacity,
      room_for_more c.args.variant form settings n c.requires.next due,
    )

pub returns-in-Ok-evaluate : goal.returns-in-Ok-evaluate
returns-in-Ok-evaluate g c =
    let form = c.args.source.now.form.now in
    let settings = c.args.settings in
    let n = c.args.so_far in
    let due : is_due c.args.variant form settings (n + 1) ≡ true =
    elim c.if-round-settings-eq0.branch [
      | then-round-settings-eq0 w ↦ due_in_turn c.args.variant form settings n w.if-round-settings-eq0.true ∙ sym w.is_evaluated-is
      | else-round-settings-eq0 w ↦ due_at_last c.args.variant form settings n w.if-round-settings-eq0.false ∙ sym w.is_evaluated-is
    ] ∙ c.if-is_evaluated.true in
    let run = c.requires.run in
    let players = c.play_round.new.self in
    let told = c.in-Ok.ensures in
    let none = told.stops (not_from_true _ c.if-is_evaluated.true) in
    let stand = stands c.args.variant form settings.scale (n + 1) players none told.ready in
    let before = c.args.self.now.evaluator.board.board in
    let after = c.evaluate.new.self.board.board in
    let is_after =
    c.in-Ok-evaluate.ensures.board
    ∙ ap (λ v. offered before (best_offer v form (n + 1) players.one.sum players.two.sum)) run.room.variant_is in
    let room =
    subst (λ v. CanEvaluate v form c.args.self.now.evaluator.board.capacity c.evaluate.new.self) run.room.variant_is
    c.in-Ok-evaluate.ensures.room in
    record {
      players = told.ready;
      goes_on = λ have_plans. absurd (true≢false (sym have_plans ∙ none));
      room = subst (λ k. CanEvaluate c.args.variant form k c.evaluate.new.self) run.room.capacity room;
      board = evaluated_once_more c.args.variant form settings n players.one.sum players.two.sum before after stand.one.sums_are stand.two.sums_are
          run.board is_after due;
      last = last_is_now c.args.variant form settings n players.one.sum players.two.sum before after stand.one.sums_are stand.two.sums_are run.board is_after;
    }

pub returns-else-is_evaluated : goal.returns-else-is_evaluated
returns-else-is_evaluated g c =
    let form = c.args.source.now.form.now in
    let settings = c.args.settings in
    let n = c.args.so_far in
    let due : is_due c.args.variant form settings (n + 1) ≡ false =
    elim c.if-round-settings-eq0.branch [
      | then-round-settings-eq0 w ↦ due_in_turn c.args.variant form settings n w.if-round-settings-eq0.true ∙ sym w.is_evaluated-is
      | else-round-settings-eq0 w ↦ due_at_last c.args.variant form settings n w.if-round-settings-eq0.false ∙ sym w.is_evaluated-is
    ] ∙ c.if-is_evaluated.false in
    let run = c.requires.run in
    record {
      players = c.in-Ok.ensures.ready;
      goes_on = λ _. one_more c.args.variant form settings n c.requires.next due;
      room = run.room;
      board = run.board ∙ ap board_after (sym (offers_same c.args.variant form settings n due));
      last = omega (arith, run.last);
    }
