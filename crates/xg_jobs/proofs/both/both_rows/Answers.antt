use Rattle.std.proofs.Common.{ℕ, ◌<◌, List, map, length, arith, ap, ◌∙◌, ⊎_elim}
use Rattle.std.proofs.lemmas.Bool.{cases_eq}
use Rattle.def_plan.specs.FormRows.{amount_of}
use Rattle.xg_jobs.specs.Groups.{GroupLeaf, group_sum}
use Rattle.xg_jobs.proofs.GroupSums.{group_map}
use Rattle.xg_jobs.proofs.Parts.{room_left, row_after}
use Rattle.xg_jobs.proofs.both.both_rows.Goals as goal

pub add_group-sum-requires : goal.add_group-sum-requires
add_group-sum-requires g c κs within =
    let starts = c.args.starts.now in
    let gs : List GroupLeaf = map g.E.GroupEntry.leaf c.args.entries.now in
    let n : ℕ = c.loop-s.s in
    let all : ℕ = length c.args.own.now in
    let low : n < all = omega arith in
    let is = group_map g.E.GroupEntry.leaf starts c.args.entries.now n in (
      within.0,
      (
        within.1,
        (
          rw is (c.requires.1.1.1.1.1.1.1.0 n low),
          (
            omega arith,
            (
              c.requires.1.1.1.1.1.1.1.1.0 n,
              (
                c.requires.1.1.1.1.1.1.1.1.1.0,
                (
                  c.requires.1.1.1.1.1.1.1.1.1.1.0,
                  λ b. rw is (room_left g.R.Row.limit starts gs c.args.one.now n all g.most b (amount_of (map g.R.Row.amount c.loop-s.other) b)
                      (amount_of (map g.R.Row.amount c.args.other.now) b) low (c.loop-s.invariant.1 b) c.requires.1.1.1.1.1.1.1.1.0
                      (c.requires.1.1.1.1.1.1.1.1.1.1.1 b)),
                ),
              ),
            ),
          ),
        ),
      ),
    )

pub loop-s-preserved : goal.loop-s-preserved
loop-s-preserved g c =
    let starts = c.args.starts.now in
    let gs : List GroupLeaf = map g.E.GroupEntry.leaf c.args.entries.now in
    let n : ℕ = c.loop-s.s in
    let is = group_map g.E.GroupEntry.leaf starts c.args.entries.now n in (
      λ t low.
          ⊎_elim
          (λ same. rw same (c.put.ensures.here ∙ c.add_group-sum.ensures.own ∙ ap (group_sum c.args.two.now) is))
          (λ there. c.put.ensures.others t there ∙ c.loop-s.invariant.0 t (omega arith))
          (cases_eq t n),
      λ b. row_after starts gs c.args.one.now n b _ _ _ (amount_of (map g.R.Row.amount c.args.other.now) b) is (c.loop-s.invariant.1 b)
          (c.add_group-sum.ensures.other b),
    )
