-- A game's jobs as ranges of its leaves, which count from 0.
use Rattle.std.specs.Prelude.{◌≡◌, ℕ, ◌+◌, ◌<◌, List, [], ◌∷◌, length, take, drop, slice_index_or, flat_map}
use Rattle.std.specs.List.{range_with_len}
use Rattle.def_tree.specs.Tree.{Forest, prefix, leaf_count, tree_count}
use Rattle.def_history.specs.Jobs.{jobs_of, leaf_counts, leaves_in}

-- a job has some leaves in a row: the first one, and how many
pub record LeafRange : Type 0 where
  pub first : ℕ
  pub count : ℕ

abbrev pub leaves_of : LeafRange → List ℕ
leaves_of range = range_with_len range.first range.count

-- the jobs' leaves, one job after the other, are all leaves, each once
abbrev pub Partitions : List LeafRange → ℕ → Type 0
Partitions ranges leaves = flat_map leaves_of ranges ≡ range_with_len 0 leaves

-- ranges of so many leaves, one behind the other
abbrev pub ranges_from : ℕ → List ℕ → List LeafRange
ranges_from first [] = []
ranges_from first (count ∷ rest) = record { first = first; count = count } ∷ ranges_from (first + count) rest

abbrev pub job_ranges : Forest → List LeafRange
job_ranges tree = ranges_from 0 (leaf_counts tree)

-- the ranges are all leaves, each once
abbrev pub JobsPartition : Type 0
JobsPartition = (tree : Forest) → tree_count tree ≡ 1 → Partitions (job_ranges tree) (leaf_count (prefix tree))

-- the leaves at a job's range are the job's own
abbrev pub RangesHaveTheirJobs : Type 0
RangesHaveTheirJobs = (tree : Forest) → tree_count tree ≡ 1 → (k : ℕ) (range : LeafRange) (job : Forest)
    → k < length (jobs_of tree) →
    let at = slice_index_or (job_ranges tree) k range in
    take at.count (drop at.first (leaves_in tree)) ≡ leaves_in (slice_index_or (jobs_of tree) k job)
