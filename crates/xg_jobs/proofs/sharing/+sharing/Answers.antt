use Rattle.std.proofs.Common.{◌≡◌, ℕ, ◌+◌, ◌++◌, List, ℤ, length, map, pos, replicate, arith, rules, sym, ◌∙◌}
use Rattle.std.proofs.lemmas.List.{length-append, length-map, length-replicate, map-append}
use Rattle.xg_jobs.specs.Groups.{GroupLeaf}
use Rattle.xg_jobs.proofs.TwoParts.{both_fit, brings, can_first, can_later, sums_of_both, zeros_at}
use Rattle.xg_jobs.proofs.sharing.+sharing.Goals as goal

pub add_by_threads-add_side_by_side-full-requires : goal.add_by_threads-add_side_by_side-full-requires
add_by_threads-add_side_by_side-full-requires g t c κs within =
    let groups = c.args.groups.now in
    let gs : List GroupLeaf = map g.E.GroupEntry.leaf groups.entries.now in
    let zeros : List ℤ = replicate (length c.args.other.now) (pos 0) in
    let n : ℕ = length c.split_at_mut-later_other.result.0.now in
    let as_many : length (replicate n (pos 0)) ≡ length zeros =
    length-replicate n (pos 0) ∙ c.split_at_mut-later_other.ensures.front_len ∙ sym (length-replicate (length c.args.other.now) (pos 0)) in
    let first = can_first g.R.Row.limit groups.starts.now gs groups.one.now groups.two.now (length c.args.own.now) zeros c.begin_of_last-cut.result _ _ _
    c.requires.can c.begin_of_last-cut.ensures c.split_at-2.ensures.front c.split_at.ensures.front c.split_at_mut-first_own.ensures.front_len in
    let later = can_later g.R.Row.limit groups.starts.now gs groups.one.now groups.two.now (length c.args.own.now) zeros (replicate n (pos 0))
    c.begin_of_last-cut.result c.split_at-3.result.1.now c.split_at.result.1.now (length c.split_at_mut-first_own.result.1.now) c.requires.can
    c.begin_of_last-cut.ensures as_many (zeros_at n) c.split_at-3.ensures.back c.split_at.ensures.back
    (omega (arith, c.split_at_mut-first_own.ensures.back_len)) in (
      omega arith,
      (within.0, (within.1.0, (within.1.1, (search rules, (search rules, (search rules, (c.requires.sync, (first, later)))))))),
    )

pub add_by_threads-add_rows-requires-clause-room : goal.add_by_threads-add_rows-requires-clause-room
add_by_threads-add_rows-requires-clause-room g t c b =
    let groups = c.args.groups.now in
    let gs : List GroupLeaf = map g.E.GroupEntry.leaf groups.entries.now in
    let cut : ℕ = c.begin_of_last-cut.result in
    let n : ℕ = length c.args.own.now in
    let j : ℕ = length (map g.R.Row.amount c.add_side_by_side-full.new.later_own) in
    let front : length (map g.R.Row.amount c.add_side_by_side-full.new.own) ≡ cut =
    length-map c.add_side_by_side-full.new.own g.R.Row.amount ∙ c.add_side_by_side-full.auto.own ∙ c.split_at_mut-first_own.ensures.front_len in
    let back : cut + j ≡ n =
    omega (arith, length-map c.add_side_by_side-full.new.later_own g.R.Row.amount, c.add_side_by_side-full.auto.later_own, c.split_at_mut-first_own.ensures.back_len) in
    both_fit g.R.Row.limit groups.starts.now gs groups.one.now groups.two.now n b (replicate (length c.args.other.now) (pos 0)) _ c.requires.can
    (brings groups.starts.now gs groups.one.now cut n b _ _ _ _ _ _ _ _ _ _
    c.split_at-2.ensures.front c.split_at.ensures.front c.split_at-3.ensures.back c.split_at.ensures.back front back
    (c.add_side_by_side-full.ensures.first.parts b) (zeros_at (length c.split_at_mut-later_other.result.0.now) b) (c.add_side_by_side-full.ensures.later.parts b))

pub add_by_threads-returns : goal.add_by_threads-returns
add_by_threads-returns g t c =
    let groups = c.args.groups.now in
    let gs : List GroupLeaf = map g.E.GroupEntry.leaf groups.entries.now in
    let cut : ℕ = c.begin_of_last-cut.result in
    let own : List ℤ = map g.R.Row.amount c.add_side_by_side-full.new.own in
    let later : List ℤ = map g.R.Row.amount c.add_side_by_side-full.new.later_own in
    let front : length own ≡ cut =
    length-map c.add_side_by_side-full.new.own g.R.Row.amount ∙ c.add_side_by_side-full.auto.own ∙ c.split_at_mut-first_own.ensures.front_len in
    let both : map g.R.Row.amount (c.add_side_by_side-full.new.own ++ c.add_side_by_side-full.new.later_own) ≡ own
    ++ later = map-append g.R.Row.amount c.add_side_by_side-full.new.own c.add_side_by_side-full.new.later_own in
    rw both (record {
      sums = sums_of_both groups.starts.now gs groups.two.now cut _ _ own later c.split_at-2.ensures.front c.split_at-3.ensures.back front
          c.add_side_by_side-full.ensures.first.sums c.add_side_by_side-full.ensures.later.sums;
      parts = λ b.
          c.add_rows.ensures b
          ∙ brings groups.starts.now gs groups.one.now cut (length (own ++ later)) b _ _ _ _ _ _ _ _ _ _
          c.split_at-2.ensures.front c.split_at.ensures.front c.split_at-3.ensures.back c.split_at.ensures.back front
          (omega (arith, front, length-append own later))
          (c.add_side_by_side-full.ensures.first.parts b) (zeros_at (length c.split_at_mut-later_other.result.0.now) b) (c.add_side_by_side-full.ensures.later.parts b);
    })
