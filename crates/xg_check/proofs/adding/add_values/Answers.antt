use Rattle.std.proofs.Common.{◌≡◌, ◌+◌, ◌*◌, ◌^◌, ◌<◌, ◌≤◌, ℕ, ℤ, List, arith, length, pos, subst, unsigned_abs, ◌∙◌}
use Rattle.std.proofs.lemmas.List.Elements.{All-get_or}
use Rattle.def_plan.specs.Form.{PlacedSet, placed, player_sets}
use Rattle.def_plan.proofs.BadSets.{length-placed}
use Rattle.xg_seq.proofs.RowLemmas.{sets_are_few}
use Rattle.xg_check.specs.Views.{AreAllWithin, row}
use Rattle.xg_seq.specs.Table.{placed_of_row}
use Rattle.xg_check.proofs.AddLemmas.{no_value_left, there_is, value_step, within_step}
use Rattle.xg_check.proofs.adding.add_values.Goals as goal

pub add_value-requires-clause-room : goal.add_value-requires-clause-room
add_value-requires-clause-room c = λ s.
    omega (
      arith,
      c.loop-k.invariant.small s,
      c.loop-k-test.true,
      c.set_count-k-end.ensures,
      c.requires.limit,
      sets_are_few 1 (player_sets c.args.form.now c.args.player) c.requires.order,
    )

pub loop-k-preserved : goal.loop-k-preserved
loop-k-preserved c =
    let k = c.loop-k.k in
    let hs : List PlacedSet = placed (player_sets c.args.form.now c.args.player) in
    let h : PlacedSet = placed_of_row c.place_of-h.result in
    let low : k < length c.args.values.now = omega (arith, c.loop-k-test.true, c.set_count-k-end.ensures, c.requires.as_many) in
    let there : k < length hs = omega (arith, c.loop-k-test.true, c.set_count-k-end.ensures, length-placed 1 (player_sets c.args.form.now c.args.player)) in
    let next : 2 ^ 119 + k * 2 ^ 100 + 2 ^ 100 ≡ 2 ^ 119 + (k + 1) * 2 ^ 100 = omega arith in
    let size : unsigned_abs (row c.args.values.now k) ≤ 2 ^ 100 = All-get_or (λ (v : ℤ). unsigned_abs v ≤ 2 ^ 100) c.args.values.now k (pos 0) low
    c.requires.values in
    record {
      left = value_step c.loop-k.rows c.add_value.new.rows hs c.args.values.now k h _ there low (there_is hs k h h c.place_of-h.ensures.place)
          c.loop-k.invariant.left c.add_value.ensures.added;
      small = subst (λ (most : ℕ). AreAllWithin most c.add_value.new.rows) next
          (within_step c.loop-k.rows c.add_value.new.rows _ _ (2 ^ 119 + k * 2 ^ 100) (2 ^ 100) c.loop-k.invariant.small c.add_value.ensures.added size);
      same = c.add_value.ensures.same_length ∙ c.loop-k.invariant.same;
    }

pub returns-clause-sums : goal.returns-clause-sums
returns-clause-sums c =
    no_value_left c.loop-k.rows (placed (player_sets c.args.form.now c.args.player)) c.args.values.now c.loop-k.k _
    (omega (arith, c.loop-k-test.false, c.set_count-k-end.ensures, length-placed 1 (player_sets c.args.form.now c.args.player))) c.loop-k.invariant.left
