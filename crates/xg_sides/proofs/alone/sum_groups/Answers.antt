use Rattle.std.proofs.Common.{ℕ, ◌<◌, ◌≤◌, List, map, length, arith, ap, ◌∙◌, ⊎_elim}
use Rattle.std.proofs.lemmas.Bool.{cases_eq}
use Rattle.std.proofs.Math.Nat.{mul-le-mul_right}
use Rattle.xg_jobs.specs.Groups.{GroupLeaf, group_at, group_mass, group_sum, groups_mass}
use Rattle.xg_jobs.proofs.GroupSums.{group_map}
use Rattle.xg_jobs.proofs.Parts.{mass_upto}
use Rattle.xg_sides.proofs.alone.sum_groups.Goals as goal

pub sum_group-requires : goal.sum_group-requires
sum_group-requires g c κs within =
    let starts = c.args.starts.now in
    let gs : List GroupLeaf = map g.E.GroupEntry.leaf c.args.entries.now in
    let n : ℕ = c.loop-s.s in
    let all : ℕ = length c.args.own.now in
    let low : n < all = omega arith in
    let is = group_map g.E.GroupEntry.leaf starts c.args.entries.now n in
    let light : group_mass (group_at starts gs n) ≤ groups_mass starts gs all = omega (arith, mass_upto starts gs n all low) in
    let scaled = mul-le-mul_right g.most light in (
      within.0,
      (
        within.1,
        (
          rw is (c.requires.1.1.1.1.1.0 n low),
          (
            c.requires.1.1.1.1.1.1.0,
            (c.requires.1.1.1.1.1.1.1.0, rw is (omega (arith, scaled, c.requires.1.1.1.1.1.1.1.1))),
          ),
        ),
      ),
    )

pub loop-s-preserved : goal.loop-s-preserved
loop-s-preserved g c =
    let n : ℕ = c.loop-s.s in
    let is = group_map g.E.GroupEntry.leaf c.args.starts.now c.args.entries.now n in
    λ t low.
    ⊎_elim
    (λ same. rw same (c.put.ensures.here ∙ c.sum_group.ensures ∙ ap (group_sum c.args.two.now) is))
    (λ there. c.put.ensures.others t there ∙ c.loop-s.invariant t (omega arith))
    (cases_eq t n)
