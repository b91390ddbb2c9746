use Rattle.std.proofs.Common.{◌≡◌, ◌<◌, ◌+◌, ℕ, List, length, get_or, refl, sym, subst, arith, rules}
use Rattle.def_history.specs.Jobs.{jobs_of}
use Rattle.def_history.proofs.Cuts.{length-jobs_of}
use Rattle.def_tree.specs.Tree.{Forest, node_count}
use Rattle.xg_jobs.specs.declared.table.LeafRange.{LeafRange}
use Rattle.xg_jobs.proofs.OnePassOverJobs.{jobs_counted}
use Rattle.xg_jobs.proofs.Ranging.{RangedSome, none_ranged, range_more}
use Rattle.xg_jobs.proofs.cutting.ranges_of.Goals as goal

pub loop-i-init : goal.loop-i-init
loop-i-init c =
    none_ranged c.args.tree.now c.in_ok-jobs.jobs.items c.in_ok-jobs.ensures
    c.new-ranges.result.items c.new-ranges.ensures.items

pub leaves_between-count-requires : goal.leaves_between-count-requires
leaves_between-count-requires c =
    let tree : Forest = c.args.tree.now in
    let nodes : List ℕ = c.in_ok-jobs.jobs.items in
    let i : ℕ = c.loop-i.i in
    let low : i < length nodes = omega (arith, c.in_ok-jobs.jobs.ok) in
    let at : c.unwrap_or-next.result ≡ get_or nodes (i + 1) (node_count tree + 1) = search rules in
    let next = range_more tree nodes c.loop-i.ranges.items c.loop-i.first i c.index.result.now c.unwrap_or-next.result
    c.loop-i.invariant c.len-end.ensures.rules.limit low c.index.ensures at in
    record { from_one = next.from_one; ordered = next.ordered; there = next.there }

pub loop-i-preserved : goal.loop-i-preserved
loop-i-preserved c =
    let tree : Forest = c.args.tree.now in
    let nodes : List ℕ = c.in_ok-jobs.jobs.items in
    let i : ℕ = c.loop-i.i in
    let first : ℕ = c.loop-i.first in
    let count : ℕ = c.leaves_between-count.result in
    let low : i < length nodes = omega (arith, c.in_ok-jobs.jobs.ok) in
    let at : c.unwrap_or-next.result ≡ get_or nodes (i + 1) (node_count tree + 1) = search rules in
    let next = range_more tree nodes c.loop-i.ranges.items first i c.index.result.now c.unwrap_or-next.result
    c.loop-i.invariant c.len-end.ensures.rules.limit low c.index.ensures at in
    let r : LeafRange = record { first = first; count = count } in
    subst (λ rs. RangedSome tree nodes rs (first + count) (i + 1)) (sym c.in_ok-push.ensures.items)
    (next.next count c.leaves_between-count.ensures r refl)

pub returns-clause-kept : goal.returns-clause-kept
returns-clause-kept c =
    let tree : Forest = c.args.tree.now in
    let few : length c.in_ok-jobs.jobs.items ≡ length (jobs_of tree) =
    jobs_counted tree 1 (node_count tree + 1) c.in_ok-jobs.jobs.items (jobs_of tree) c.in_ok-jobs.ensures in
    record {
      limit = omega (arith, c.in_ok-jobs.jobs.ok, few, length-jobs_of tree);
      inside = c.loop-i.invariant.inside;
    }
