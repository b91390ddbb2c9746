-- The rows of each job.
use Rattle.std.proofs.Common.{◌≡◌, ℕ, zero, suc, ◌+◌, ◌<◌, ◌≤◌, max, List, [], ◌∷◌, ◌++◌, length, get_or, take, map, All, sym, ap, subst, ◌∙◌, arith}
use Rattle.std.proofs.Common.{length-append}
use Rattle.std.specs.Prelude.{flat_map}
use Rattle.std.proofs.lemmas.List.{take_more, map_push, get_or-map, length-map}
use Rattle.std.proofs.lemmas.List.FromFn.{length-range_with_len}
use Rattle.def_tree.specs.Tree.{Forest, prefix, leaf_count, tree_count}
use Rattle.def_game_paths.specs.Paths.{leaf_visits}
use Rattle.def_history.specs.Jobs.{leaf_counts}
use Rattle.def_history.specs.Ranges.{LeafRange as RangeOfLeaves, leaves_of, ranges_from, job_ranges}
use Rattle.def_history.proofs.Ranges.{partition}
use Rattle.def_plan.specs.Form.{SequenceForm}
use Rattle.def_sequence_form.proofs.Leaves.{leaves_counted, length-leaves_with}
use Rattle.xg_touched.specs.Touched.{JobRows, job_rows}
use Rattle.xg_jobs.specs.declared.table.LeafRange.{LeafRange}
use Rattle.xg_jobs.specs.Groups.{greatest_of}
use Rattle.xg_jobs.specs.Ranges.{range_of}
use Rattle.xg_jobs.specs.Table.{IsFormOf, IsTableOf, TableOfJobs, most_touched}
use Rattle.xg_jobs.proofs.Greatest.{greatest_last, at_most_greatest}

-- ranges behind one another end where their leaves end
ranges_end : (first : ℕ) (counts : List ℕ) (k : ℕ) (d : RangeOfLeaves) → k < length (ranges_from first counts)
    → (get_or (ranges_from first counts) k d).first + (get_or (ranges_from first counts) k d).count
    ≤ first + length (flat_map leaves_of (ranges_from first counts))
ranges_end first [] k d low = absurd (omega arith)
ranges_end first (count ∷ rest) zero d low =
    omega (
      arith,
      length-append (leaves_of (record { first = first; count = count })) (flat_map leaves_of (ranges_from (first + count) rest)),
      length-range_with_len first count,
    )
ranges_end first (count ∷ rest) (suc k) d low =
    omega (
      arith,
      ranges_end (first + count) rest k d (omega arith),
      length-append (leaves_of (record { first = first; count = count }))
          (flat_map leaves_of (ranges_from (first + count) rest)),
      length-range_with_len first count,
    )

-- a form has a leaf for each of its tree's
pub form_leaves : (form : SequenceForm) (tree : Forest) → IsFormOf form tree
    → length form.leaves ≡ leaf_count (prefix tree)
form_leaves form tree is =
    let visited = leaves_counted tree in
    ap (λ (f : SequenceForm). length f.leaves) is.form_is
    ∙ length-leaves_with tree (leaf_visits tree) is.weights (omega (arith, visited, is.count)) ∙ visited

-- each job's leaves are some of the form's
pub ranges_inside : (form : SequenceForm) (tree : Forest) → IsFormOf form tree → tree_count tree ≡ 1
    → All (λ (r : RangeOfLeaves). r.first + r.count ≤ length form.leaves) (job_ranges tree)
ranges_inside form tree is one k d low =
    omega (
      arith,
      ranges_end 0 (leaf_counts tree) k d low,
      ap length (partition tree one),
      length-range_with_len 0 (leaf_count (prefix tree)),
      form_leaves form tree is,
    )

-- the same of the ranges as a table has them
pub table_inside : (form : SequenceForm) (tree : Forest) (ranges : List LeafRange) → IsFormOf form tree
    → tree_count tree ≡ 1
    → map range_of ranges ≡ job_ranges tree
    → All (λ (r : LeafRange). r.first + r.count ≤ length form.leaves) ranges
table_inside form tree ranges is one known k d low =
    let all = subst (All (λ (r : RangeOfLeaves). r.first + r.count ≤ length form.leaves)) (sym known) (ranges_inside form tree is one) in
    let at = all k (range_of d) (omega (arith, length-map ranges range_of)) in
    subst (λ (r : RangeOfLeaves). r.first + r.count ≤ length form.leaves) (get_or-map range_of ranges k d (range_of d) low) at

-- the rows of one job more
pub touched_more : (form : SequenceForm) (ranges : List LeafRange) (k : ℕ) (r : LeafRange) → k < length ranges
    → get_or ranges k r ≡ r
    → map (job_rows form) (map range_of (take (k + 1) ranges))
    ≡ map (job_rows form) (map range_of (take k ranges)) ++ job_rows form (range_of r) ∷ []
touched_more form ranges k r low read =
    ap (λ rs. map (job_rows form) (map range_of rs)) (take_more ranges k r low ∙ ap (λ x. take k ranges ++ x ∷ []) read)
    ∙ ap (map (job_rows form)) (map_push range_of (take k ranges) r)
    ∙ map_push (job_rows form) (map range_of (take k ranges)) (range_of r)

abbrev size : JobRows → ℕ
size job = length job.rows

-- the greatest number of rows of one job more
pub most_more : (touched : List JobRows) (k : ℕ) (job : JobRows) → k < length touched → get_or touched k job ≡ job
    → most_touched (take (k + 1) touched) ≡ max (most_touched (take k touched)) (length job.rows)
most_more touched k job low read =
    ap greatest_of (map_push_here)
    ∙ greatest_last (map size (take k touched)) (size job)
  where
    map_push_here : map size (take (k + 1) touched) ≡ map size (take k touched) ++ size job ∷ []
    map_push_here = ap (map size) (take_more touched k job low ∙ ap (λ x. take k touched ++ x ∷ []) read) ∙ map_push size (take k touched) job

-- each job has at most so many rows
pub at_most_touched : (touched : List JobRows) (k : ℕ) (d : JobRows) → k < length touched
    → length (get_or touched k d).rows ≤ most_touched touched
at_most_touched touched k d low =
    omega (arith, at_most_greatest (map size touched) k, get_or-map size touched k d 0 low)

-- what a table tells of a job
pub record JobIsTouched (form : SequenceForm) (table : TableOfJobs) (job : ℕ) (touched : JobRows) : Type 0 where
  pub range_is : get_or table.ranges job (record { first = 0; count = 0 }) ≡ touched.range
  pub inside : touched.range.first + touched.range.count ≤ length form.leaves
  pub rows : touched ≡ job_rows form touched.range
  pub few : length touched.rows ≤ most_touched table.touched

-- a table built from a form tells so of each of its jobs
pub job_is_touched : (form : SequenceForm) (table : TableOfJobs) (job : ℕ) (touched : JobRows)
    → IsTableOf form table → job < length table.ranges → touched ≡ get_or table.touched job touched
    → JobIsTouched form table job touched
job_is_touched form table job touched is low found =
    let none : RangeOfLeaves = record { first = 0; count = 0 } in
    let tree : Forest = is.leaves.tree in
    let range : RangeOfLeaves = get_or (job_ranges tree) job none in
    let ranges_are : table.ranges ≡ job_ranges tree = is.leaves.ranges_are in
    let touched_are : table.touched ≡ map (job_rows form) (job_ranges tree) = is.touched_are ∙ ap (map (job_rows form)) ranges_are in
    let there : job < length (job_ranges tree) = subst (λ rs. job < length rs) ranges_are low in
    let whole : touched ≡ job_rows form range =
    found ∙ ap (λ ts. get_or ts job touched) touched_are ∙ get_or-map (job_rows form) (job_ranges tree) job none touched there in
    let same : range ≡ touched.range = sym (ap (λ (t : JobRows). t.range) whole) in
    record {
      range_is = ap (λ rs. get_or rs job none) ranges_are ∙ same;
      inside = subst (λ (r : RangeOfLeaves). r.first + r.count ≤ length form.leaves) same
          (ranges_inside form tree is.leaves.form_is is.leaves.rules.tree.one job none there);
      rows = whole ∙ ap (job_rows form) same;
      few = omega (
        arith,
        ap (λ (t : JobRows). length t.rows) found,
        at_most_touched table.touched job touched
            (omega (arith, ap (length {A = JobRows}) touched_are, length-map (job_ranges tree) (job_rows form), there)),
      );
    }
