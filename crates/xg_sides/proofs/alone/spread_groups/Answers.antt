use Rattle.std.proofs.Common.{ℕ, ◌<◌, List, map, length, All, arith, ap, refl, subst, sym, ◌∙◌}
use Rattle.def_plan.specs.FormRows.{amount_of}
use Rattle.xg_jobs.specs.Groups.{GroupLeaf, group_at}
use Rattle.xg_jobs.proofs.GroupSums.{group_map}
use Rattle.xg_jobs.proofs.Parts.{room_left, row_after, row_untouched}
use Rattle.xg_sides.proofs.alone.spread_groups.Goals as goal
use Rattle.xg_sides.proofs.alone.spread_groups.Goals.{then-one-s-ne0, else-one-s-ne0}

pub add_parts-requires : goal.add_parts-requires
add_parts-requires g c κs within =
    let starts = c.args.starts.now in
    let gs : List GroupLeaf = map g.E.GroupEntry.leaf c.args.entries.now in
    let n : ℕ = c.loop-s.s in
    let all : ℕ = length c.args.one.now in
    let low : n < all = omega arith in
    let is = group_map g.E.GroupEntry.leaf starts c.args.entries.now n in (
      within.0,
      (
        within.1,
        (
          rw is (subst (λ m. All (λ e. e.other < m) (group_at starts gs n)) (sym c.loop-s.auto.other) (c.requires.1.1.1.1.1.0 n low)),
          (
            c.requires.1.1.1.1.1.1.0 n,
            (
              c.requires.1.1.1.1.1.1.1.0,
              λ b. rw is (room_left g.R.Row.limit starts gs c.args.one.now n all g.most b (amount_of (map g.R.Row.amount c.loop-s.other) b)
                  (amount_of (map g.R.Row.amount c.args.other.now) b) low (c.loop-s.invariant b) c.requires.1.1.1.1.1.1.0 (c.requires.1.1.1.1.1.1.1.1 b)),
            ),
          ),
        ),
      ),
    )

pub loop-s-preserved : goal.loop-s-preserved
loop-s-preserved g c =
    let starts = c.args.starts.now in
    let gs : List GroupLeaf = map g.E.GroupEntry.leaf c.args.entries.now in
    let n : ℕ = c.loop-s.s in
    let is = group_map g.E.GroupEntry.leaf starts c.args.entries.now n in
    λ b.
    elim c.if-one-s-ne0.branch [
      | then-one-s-ne0 w ↦ row_after starts gs c.args.one.now n b _ _ _ (amount_of (map g.R.Row.amount c.args.other.now) b) is (c.loop-s.invariant b)
          (ap (λ rows. amount_of (map g.R.Row.amount rows) b) w.other-is ∙ w.add_parts.ensures.other b)
      | else-one-s-ne0 w ↦ row_after starts gs c.args.one.now n b (group_at starts gs n) _ _ (amount_of (map g.R.Row.amount c.args.other.now) b) refl
          (c.loop-s.invariant b) (ap (λ rows. amount_of (map g.R.Row.amount rows) b) w.other-is
          ∙ row_untouched _ (group_at starts gs n) b _ w.if-one-s-ne0.false)
    ]
