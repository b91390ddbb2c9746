use Rattle.std.proofs.Common.{◌≡◌, ◌+◌, ◌<◌, List, map, length, ℤ, arith, sym, ap, ◌∙◌}
use Rattle.std.proofs.lemmas.List.{length-map}
use Rattle.def_plan.specs.Form.{InformationSet, player_sets, sequence_count}
use Rattle.def_round.specs.Round.{regrets_after}
use Rattle.def_round.proofs.Regrets.{rounds_are_computed}
use Rattle.def_sums.specs.Limits.{most_rounds}
use Rattle.xg_closer.specs.Regrets.{KeepsRegrets, RegretsSoFar, kept_regrets}
use Rattle.xg_closer.specs.Rows.{own_amount}
use Rattle.xg_closer.proofs.Closed.{keeps_regrets, length-kept, written}
use Rattle.xg_closer.proofs.SetValues.{regrets_count}
use Rattle.xg_closer.proofs.closing.close_by_rows.Goals as goal

pub invariant_of-regrets : goal.invariant_of-regrets
invariant_of-regrets g c =
    let player = c.args.player in
    let rows : List ℤ = map g.A.Worth.amount c.args.rows.now in
    let sets : List InformationSet = player_sets c.args.form.now player in
    let order = c.facts.ensures.order player in
    let before : List ℤ = c.args.regrets.now.of_sequences in
    let was = c.regrets.inside in
    let view : kept_regrets was.most_small was.small_regrets.items was.regrets.items ≡ before = ap (λ (r : RegretsSoFar). r.of_sequences) c.regrets.view_is in
    let small : List ℤ = c.close_rows-most.new.small_regrets in
    let wide : List ℤ = c.close_rows-most.new.regrets in
    let after_is : kept_regrets c.close_rows-most.result small wide ≡ regrets_after (own_amount player rows) c.args.play.now sets before =
    cc (view, c.close_rows-most.ensures.regrets) in
    let small_written = written small was.small_regrets.items _ (c.close_rows-most.ensures.small_count ∙ c.deref_mut-3.ensures.len) in
    let wide_written = written wide was.regrets.items _ (c.close_rows-most.ensures.count ∙ c.deref_mut-4.ensures.len) in
    let worths : List ℤ = c.close_rows-most.new.worths in
    let worths_written = written worths was.worths.items _ (c.close_rows-most.ensures.worths_count ∙ c.deref_mut-2.ensures.len) in
    let small_worths : List ℤ = c.close_rows-most.new.small_worths in
    let small_worths_written = written small_worths was.small_worths.items _ (c.close_rows-most.ensures.small_worths_count ∙ c.deref_mut.ensures.len) in
    let closed : was.rounds ≡ c.args.regrets.now.closed = ap (λ (r : RegretsSoFar). r.closed) c.regrets.view_is in
    let few : was.rounds < most_rounds = omega (arith, closed, c.requires.few_rounds) in
    let as_sets : length was.regrets.items ≡ sequence_count sets =
    sym (length-kept was.most_small was.small_regrets.items was.regrets.items c.regrets.invariant.small_count)
    ∙ ap (length {A = ℤ}) view ∙ c.requires.as_regrets in
    let sizes = rw view at c.regrets.invariant.sizes in
    let kept : KeepsRegrets c.close_rows-most.result small wide worths small_worths (was.rounds + 1) =
    keeps_regrets player rows sets (length-map c.args.rows.now g.A.Worth.amount ∙ c.requires.as_rows) c.requires.small_rows c.args.play.now before
    c.close_rows-most.result small wide worths small_worths was.rounds order c.requires.all_units few sizes after_is
    (c.close_rows-most.ensures.worths_count ∙ ap (length {A = ℤ}) c.deref_mut-2.ensures.value ∙ c.regrets.invariant.room ∙ as_sets)
    (c.close_rows-most.ensures.small_worths_count ∙ ap (length {A = ℤ}) c.deref_mut.ensures.value ∙ c.regrets.invariant.small_room ∙ as_sets)
    (c.close_rows-most.ensures.small_count ∙ ap (length {A = ℤ}) c.deref_mut-3.ensures.value ∙ c.regrets.invariant.small_count ∙ as_sets)
    (c.close_rows-most.ensures.count ∙ ap (length {A = ℤ}) c.deref_mut-4.ensures.value ∙ as_sets)
    c.close_rows-most.ensures.small in
    rw (small_written, wide_written, worths_written, small_worths_written) kept

pub returns : goal.returns
returns g c =
    let player = c.args.player in
    let rows : List ℤ = map g.A.Worth.amount c.args.rows.now in
    let sets : List InformationSet = player_sets c.args.form.now player in
    let order = c.facts.ensures.order player in
    let before : List ℤ = c.args.regrets.now.of_sequences in
    let was = c.regrets.inside in
    let view : kept_regrets was.most_small was.small_regrets.items was.regrets.items ≡ before = ap (λ (r : RegretsSoFar). r.of_sequences) c.regrets.view_is in
    let small : List ℤ = c.close_rows-most.new.small_regrets in
    let wide : List ℤ = c.close_rows-most.new.regrets in
    let after_is : kept_regrets c.close_rows-most.result small wide ≡ regrets_after (own_amount player rows) c.args.play.now sets before =
    cc (view, c.close_rows-most.ensures.regrets) in
    let small_written = written small was.small_regrets.items _ (c.close_rows-most.ensures.small_count ∙ c.deref_mut-3.ensures.len) in
    let wide_written = written wide was.regrets.items _ (c.close_rows-most.ensures.count ∙ c.deref_mut-4.ensures.len) in
    let is = (λ i. kept_regrets c.close_rows-most.result (small_written i) (wide_written i)) ∙ after_is in
    record {
      regrets = is;
      equations = (rounds_are_computed (own_amount player rows) c.args.play.now sets before _ order).1 is;
      rounds = ap (λ (r : RegretsSoFar). r.closed + 1) c.regrets.view_is;
      count = ap (length {A = ℤ}) is ∙ regrets_count (own_amount player rows) c.args.play.now sets before order ∙ sym c.requires.as_regrets;
    }
