use Rattle.std.proofs.Common.{◌≡◌, ℕ, ◌+◌, ◌<◌, ◌≤◌, max, List, map, length, pos, All, arith, sym, ap, subst, ◌∙◌}
use Rattle.std.proofs.lemmas.List.{length-map, length-replicate}
use Rattle.def_sums.specs.Limits.{most_root}
use Rattle.def_plan.specs.Form.{SequenceForm, sequence_count}
use Rattle.xg_jobs.specs.Groups.{GroupLeaf, greatest_of, group_at, parts_sum}
use Rattle.xg_jobs.specs.Writing.{CanWrite}
use Rattle.xg_jobs.proofs.FormRows.{all_groups, from_zero, other_rows, own_rows, room_for}
use Rattle.xg_jobs.proofs.Greatest.{both_within}
use Rattle.xg_jobs.proofs.TwoParts.{zeros_at}
use Rattle.xg_jobs.proofs.writing.write_rows.Goals as goal

pub add_by_threads-requires-clause-can : goal.add_by_threads-requires-clause-can
add_by_threads-requires-clause-can g c κs within =
    let form : SequenceForm = c.args.input.now.form.now in
    let starts = c.args.starts.now in
    let gs : List GroupLeaf = map g.E.GroupEntry.leaf c.args.entries.now in
    let x = c.args.input.now.one.now in
    let y = c.args.input.now.two.now in
    let n : ℕ = length c.args.own.now in
    let can : CanWrite g.R.Row.limit starts gs form x y = c.requires.can in
    let all : n + 1 ≡ length starts = omega (arith, c.requires.rows_one, all_groups g.R.Row.limit starts gs form x y can) in
    let low_most : max (greatest_of x) (greatest_of y) ≤ most_root = both_within x y most_root c.requires.numbers.small_one c.requires.numbers.small_two in
    record {
      ordered = λ s low. can.kept.ordered s (omega (arith, all));
      inside = λ s low. can.kept.inside (s + 1) (omega (arith, all));
      all_starts = all;
      ones = c.requires.rows_one ∙ sym c.requires.numbers.count_one;
      twos = length-replicate (length c.args.other.now) (pos 0) ∙ c.requires.rows_two ∙ sym c.requires.numbers.count_two;
      within = λ s low. subst (λ m. All (λ e. e.other < m) (group_at starts gs s)) (sym c.requires.numbers.count_two) (can.kept.within s (omega (arith, all)));
      small = omega (arith, low_most);
      room = λ b. room_for g.R.Row.limit starts gs form x y can _ n (zeros_at (length c.args.other.now) b) all;
    }

pub returns-clause-own : goal.returns-clause-own
returns-clause-own g c =
    let form : SequenceForm = c.args.input.now.form.now in
    let starts = c.args.starts.now in
    let gs : List GroupLeaf = map g.E.GroupEntry.leaf c.args.entries.now in
    let own = c.add_by_threads.new.own in
    let count : length (map g.R.Row.amount own) ≡ sequence_count form.sets_one =
    length-map own g.R.Row.amount ∙ c.add_by_threads.auto.own ∙ c.requires.rows_one in
    own_rows g.R.Row.limit starts gs form c.args.input.now.one.now c.args.input.now.two.now c.requires.can (map g.R.Row.amount own) count
    (λ s low. c.add_by_threads.ensures.sums s (omega (arith, low, count)))

pub returns-clause-other : goal.returns-clause-other
returns-clause-other g c =
    let form : SequenceForm = c.args.input.now.form.now in
    let starts = c.args.starts.now in
    let gs : List GroupLeaf = map g.E.GroupEntry.leaf c.args.entries.now in
    let x = c.args.input.now.one.now in
    let own = c.add_by_threads.new.own in
    let other = c.add_by_threads.new.other in
    let count : length (map g.R.Row.amount other) ≡ sequence_count form.sets_two =
    length-map other g.R.Row.amount ∙ c.add_by_threads.auto.other ∙ c.requires.rows_two in
    let groups : length (map g.R.Row.amount own) ≡ sequence_count form.sets_one =
    length-map own g.R.Row.amount ∙ c.add_by_threads.auto.own ∙ c.requires.rows_one in
    other_rows g.R.Row.limit starts gs form x c.args.input.now.two.now c.requires.can (map g.R.Row.amount other) count
    (λ b. from_zero _ _ _ (zeros_at (length c.args.other.now) b) (c.add_by_threads.ensures.parts b) ∙ ap (λ k. parts_sum starts gs x k b) groups)
