-- The jobs' ranges of leaves as a table has them.
use Rattle.std.specs.Prelude.{◌≤◌, List, length, All}
use Rattle.def_tree.specs.Rules.{most_nodes}
use Rattle.def_history.specs.Jobs.{most_jobs}
use Rattle.def_history.specs.Ranges.{LeafRange as RangeOfLeaves}
use Rattle.xg_jobs.specs.declared.table.LeafRange.{LeafRange}

abbrev pub range_of : LeafRange → RangeOfLeaves
range_of r = record { first = r.first; count = r.count }

-- no more ranges than there can be jobs, each of leaves that a tree can have
pub record KeepsRanges (ranges : List LeafRange) : Type 0 where
  pub limit : length ranges ≤ most_jobs
  pub inside : All (λ range. range.first ≤ most_nodes) ranges
