-- The ranges of the jobs are those of all leaves.
use Rattle.std.proofs.Common.{◌≡◌, ℕ, zero, suc, ◌+◌, ◌<◌, List, [], ◌∷◌, ◌++◌, length, get_or, take, drop, map, append_assoc, length-append, refl, ap, sym}
use Rattle.std.proofs.Common.{◌∙◌, arith}
use Rattle.std.specs.Prelude.{sum, flat_map}
use Rattle.std.specs.List.{range_with_len}
use Rattle.std.proofs.lemmas.List.Sums.{length-filter, sum_by-cons}
use Rattle.std.proofs.Math.Seq.{take-append_seam, drop-append_seam}
use Rattle.def_sums.proofs.Ranges.{range-append}
use Rattle.def_tree.specs.declared.Node.{Node}
use Rattle.def_tree.specs.Tree.{Forest, prefix, leaf_count, is_leaf_kind, tree_count}
use Rattle.def_history.specs.Jobs.{jobs_of, leaf_counts, leaves_in}
use Rattle.def_history.proofs.Cuts.{leaves-jobs_of}
use Rattle.def_history.specs.Ranges.{LeafRange, leaves_of, ranges_from, job_ranges, RangesHaveTheirJobs}

leaves-ranges_from : (first : ℕ) (counts : List ℕ)
    → flat_map leaves_of (ranges_from first counts) ≡ range_with_len first (sum counts)
leaves-ranges_from first [] = refl
leaves-ranges_from first (count ∷ rest) =
    ap (λ xs. range_with_len first count ++ xs) (leaves-ranges_from (first + count) rest) ∙ sym (range-append first count (sum rest))
    ∙ ap (range_with_len first) (sym (sum_by-cons (λ n. n) count rest))

length-leaves_in : (trees : Forest) → length (leaves_in trees) ≡ leaf_count (prefix trees)
length-leaves_in trees = length-filter (λ (node : Node). is_leaf_kind node.kind) (prefix trees)

sum-counts : (jobs : List Forest) → sum (map (λ job. leaf_count (prefix job)) jobs) ≡ length (flat_map leaves_in jobs)
sum-counts [] = refl
sum-counts (job ∷ rest) =
    sum_by-cons (λ n. n) (leaf_count (prefix job)) (map (λ j. leaf_count (prefix j)) rest)
    ∙ (λ i. sym (length-leaves_in job) i + sum-counts rest i)
    ∙ sym (length-append (leaves_in job) (flat_map leaves_in rest))

-- the ranges of the jobs, one after another, are the numbers of all leaves
pub partition : (tree : Forest) → tree_count tree ≡ 1
    → flat_map leaves_of (job_ranges tree) ≡ range_with_len 0 (leaf_count (prefix tree))
partition tree one =
    leaves-ranges_from 0 (leaf_counts tree)
    ∙ ap (range_with_len 0) (sum-counts (jobs_of tree) ∙ ap length (leaves-jobs_of tree one) ∙ length-leaves_in tree)

-- behind these leaves, the leaves at a job's range are its own
leaves_at : (before : List Node) (jobs : List Forest) (first k : ℕ) (range : LeafRange) (job : Forest)
    → first ≡ length before → k < length jobs →
    take (get_or (ranges_from first (map (λ j. leaf_count (prefix j)) jobs)) k range).count
    (drop (get_or (ranges_from first (map (λ j. leaf_count (prefix j)) jobs)) k range).first (before ++ flat_map leaves_in jobs))
    ≡ leaves_in (get_or jobs k job)
leaves_at before [] first k range job at there = absurd (omega arith)
leaves_at before (j ∷ rest) first zero range job at there =
    (λ i. take (sym (length-leaves_in j) i) (drop (at i) (before ++ (leaves_in j ++ flat_map leaves_in rest))))
    ∙ ap (take (length (leaves_in j))) (drop-append_seam before (leaves_in j ++ flat_map leaves_in rest))
    ∙ take-append_seam (leaves_in j) (flat_map leaves_in rest)
leaves_at before (j ∷ rest) first (suc k) range job at there =
    let next : first + leaf_count (prefix j) ≡ length (before ++ leaves_in j) = omega (arith, length-append before (leaves_in j), length-leaves_in j) in
    let ranges : List LeafRange = ranges_from (first + leaf_count (prefix j)) (map (λ x. leaf_count (prefix x)) rest) in
    ap (λ xs. take (get_or ranges k range).count (drop (get_or ranges k range).first xs)) (sym (append_assoc before (leaves_in j) (flat_map leaves_in rest)))
    ∙ leaves_at (before ++ leaves_in j) rest (first + leaf_count (prefix j)) k range job next (omega arith)

-- the leaves at a job's range are the job's own
pub leaves_at_ranges : RangesHaveTheirJobs
leaves_at_ranges tree one k range job there =
    let at : LeafRange = get_or (job_ranges tree) k range in
    ap (λ xs. take at.count (drop at.first xs)) (sym (leaves-jobs_of tree one)) ∙ leaves_at [] (jobs_of tree) 0 k range job refl there
