use Rattle.std.proofs.Common.{◌≡◌, List, map, length, arith, sym, ap, ◌∙◌}
use Rattle.std.proofs.lemmas.List.{length-map}
use Rattle.def_tree.specs.Opponent.{opponent}
use Rattle.def_plan.specs.Form.{SequenceForm, player_sets, sequence_count}
use Rattle.def_plan.specs.FormRows.{player_rows}
use Rattle.xg_jobs.specs.Groups.{GroupLeaf, parts_sum}
use Rattle.xg_jobs.proofs.FormRows.{from_zero, other_rows, own_rows}
use Rattle.xg_sides.proofs.Passing.{can_pass, pass_room}
use Rattle.xg_sides.proofs.writing.write_alone.Goals as goal

pub sum_groups-requires : goal.sum_groups-requires
sum_groups-requires g c κs within =
    let form : SequenceForm = c.args.input.now.form.now in
    let own : length c.args.rows.now ≡ sequence_count form.sets_one = c.requires.count ∙ ap (λ p. sequence_count (player_sets form p)) c.in-One.is in
    let others = c.requires.numbers ∙ ap (λ p. sequence_count (player_sets form (opponent p))) c.in-One.is in
    let room = pass_room g.E.GroupEntry.leaf c.args.entries.now c.requires.can own _ (c.requires.zeros 0) in
    (within.0, (within.1, can_pass g.E.GroupEntry.leaf c.args.entries.now c.requires.can own others c.requires.small (omega (arith, room))))

pub spread_groups-requires : goal.spread_groups-requires
spread_groups-requires g c κs within =
    let form : SequenceForm = c.args.input.now.form.now in
    let own : length c.args.input.now.against.now ≡ sequence_count form.sets_one =
    c.requires.numbers ∙ ap (λ p. sequence_count (player_sets form (opponent p))) c.in-Two.is in
    let others = c.requires.count ∙ ap (λ p. sequence_count (player_sets form p)) c.in-Two.is in (
      within.0,
      (
        within.1,
        can_pass g.E.GroupEntry.leaf c.args.entries.now c.requires.can own others c.requires.small
            (λ b. pass_room g.E.GroupEntry.leaf c.args.entries.now c.requires.can own _ (c.requires.zeros b)),
      ),
    )

pub returns-in-One : goal.returns-in-One
returns-in-One g c =
    let form : SequenceForm = c.args.input.now.form.now in
    let starts = c.args.starts.now in
    let gs : List GroupLeaf = map g.E.GroupEntry.leaf c.args.entries.now in
    let x = c.args.input.now.against.now in
    let count : length c.args.rows.now ≡ sequence_count form.sets_one = c.requires.count ∙ ap (λ p. sequence_count (player_sets form p)) c.in-One.is in
    let size : length (map g.R.Row.amount c.sum_groups.new.own) ≡ sequence_count form.sets_one =
    length-map c.sum_groups.new.own g.R.Row.amount ∙ c.sum_groups.auto.own ∙ count in
    own_rows g.R.Row.limit starts gs form x x c.requires.can (map g.R.Row.amount c.sum_groups.new.own) size
    (λ s low. c.sum_groups.ensures.own s (omega (arith, count)))
    ∙ ap (λ p. player_rows form p x) (sym c.in-One.is)

pub returns-in-Two : goal.returns-in-Two
returns-in-Two g c =
    let form : SequenceForm = c.args.input.now.form.now in
    let starts = c.args.starts.now in
    let gs : List GroupLeaf = map g.E.GroupEntry.leaf c.args.entries.now in
    let x = c.args.input.now.against.now in
    let count : length c.args.rows.now ≡ sequence_count form.sets_two = c.requires.count ∙ ap (λ p. sequence_count (player_sets form p)) c.in-Two.is in
    let numbers : length x ≡ sequence_count form.sets_one = c.requires.numbers ∙ ap (λ p. sequence_count (player_sets form (opponent p))) c.in-Two.is in
    let size : length (map g.R.Row.amount c.spread_groups.new.other) ≡ sequence_count form.sets_two =
    length-map c.spread_groups.new.other g.R.Row.amount ∙ c.spread_groups.auto.other ∙ count in
    other_rows g.R.Row.limit starts gs form x x c.requires.can (map g.R.Row.amount c.spread_groups.new.other) size
    (λ b. from_zero _ _ _ (c.requires.zeros b) (c.spread_groups.ensures.other b) ∙ ap (λ k. parts_sum starts gs x k b) numbers)
    ∙ ap (λ p. player_rows form p x) (sym c.in-Two.is)
