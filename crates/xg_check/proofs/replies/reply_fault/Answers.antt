use Rattle.std.proofs.Common.{◌≡◌, ◌∙◌, List, ℕ, ℤ, arith, length, sym, unsigned_abs}
use Rattle.def_plan.specs.Form.{InformationSet, placed, player_sets}
use Rattle.def_plan.specs.Payoff.{leaf_sum, worth}
use Rattle.xg_check.specs.Views.{row}
use Rattle.xg_check.proofs.AddLemmas.{whole_worth}
use Rattle.xg_check.proofs.TestLemmas.{by_rows, front_passes, front_stops, one_test, sets_part, total_part}
use Rattle.xg_check.proofs.replies.reply_fault.Goals as goal

pub returns-then-is_some-clause-fault : goal.returns-then-is_some-clause-fault
returns-then-is_some-clause-fault c =
    let player = c.args.player in
    let sets : List InformationSet = player_sets c.args.form.now player in
    let sums : ℕ → ℤ = leaf_sum player c.args.form.now.leaves c.args.against.now in
    let vs = c.args.values.now in
    let cs = c.args.choices.now in
    let e = c.args.end in
    let rows = c.add_values.new.rows in
    let whole : row rows ≡ worth sums (placed sets) vs = whole_worth c.args.rows.now c.add_leaves.new.rows rows _ _ c.requires.none c.add_leaves.ensures.sums
    c.add_values.ensures.sums in
    let equal : length vs ≡ length cs = omega (arith, c.requires.values, c.requires.choices) in
    front_stops c.first_set_fault-fault.result (sets_part player (row rows) sets vs cs)
    (total_part player (row rows) e.total e.traced e.bound (unsigned_abs e.scale)) c.first_set_fault-fault.ensures
    (sym c.is_some.ensures ∙ c.if-is_some.true)
    ∙ sym (by_rows player sums sets vs cs e.total e.traced e.bound (unsigned_abs e.scale) rows equal whole)

pub returns-clause-fault : goal.returns-clause-fault
returns-clause-fault c =
    let player = c.args.player in
    let sets : List InformationSet = player_sets c.args.form.now player in
    let sums : ℕ → ℤ = leaf_sum player c.args.form.now.leaves c.args.against.now in
    let vs = c.args.values.now in
    let cs = c.args.choices.now in
    let e = c.args.end in
    let rows = c.add_values.new.rows in
    let whole : row rows ≡ worth sums (placed sets) vs = whole_worth c.args.rows.now c.add_leaves.new.rows rows _ _ c.requires.none c.add_leaves.ensures.sums
    c.add_values.ensures.sums in
    let equal : length vs ≡ length cs = omega (arith, c.requires.values, c.requires.choices) in
    c.total_fault.ensures ∙ sym (one_test _)
    ∙ sym (front_passes c.first_set_fault-fault.result (sets_part player (row rows) sets vs cs)
    (total_part player (row rows) e.total e.traced e.bound (unsigned_abs e.scale)) c.first_set_fault-fault.ensures
    (sym c.is_some.ensures ∙ c.if-is_some.false))
    ∙ sym (by_rows player sums sets vs cs e.total e.traced e.bound (unsigned_abs e.scale) rows equal whole)
