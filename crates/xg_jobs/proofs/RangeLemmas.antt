-- A job's range, read from a table.
use Rattle.std.proofs.Common.{◌≡◌, ℕ, ◌+◌, ◌-◌, ◌<◌, ◌≤◌, List, length, map, get_or, Some, All, refl, sym, ap, subst, ◌∙◌}
use Rattle.std.specs.List.{slice_get}
use Rattle.std.specs.Option.{option_map}
use Rattle.std.proofs.lemmas.Option.{slice_get-map, slice_get_read}
use Rattle.std.proofs.lemmas.List.{length-map}
use Rattle.std.proofs.lemmas.List.Elements.{All-get_or}
use Rattle.std.proofs.Math.Nat.{add-sub_cancel}
use Rattle.def_history.specs.Ranges.{LeafRange as RangeOfLeaves}
use Rattle.def_tree.specs.Rules.{most_nodes}
use Rattle.xg_jobs.specs.declared.table.LeafRange.{LeafRange}
use Rattle.xg_jobs.specs.Ranges.{range_of}

-- a job's range is that which is read at its place, its first leaf counted from 1 and then from 0 again
pub range_at : (ranges : List LeafRange) (job : ℕ) (r : LeafRange) → job < length (map range_of ranges)
    → r ≡ get_or ranges job r
    → slice_get (map range_of ranges) job ≡ Some (record { first = r.first + 1 - 1; count = r.count })
range_at ranges job r low read =
    slice_get-map range_of ranges job
    ∙ ap (option_map range_of) (slice_get_read ranges (length ranges) job r refl (subst (λ n. job < n) (length-map ranges range_of) low) read)
    ∙ ap (λ n. Some (known n)) (sym (add-sub_cancel r.first 1))
  where
    known : ℕ → RangeOfLeaves
    known n = record { first = n; count = r.count }

-- where all ranges of a table begin within the limit of nodes, so does the one that is read
pub first_in_limit : (ranges : List LeafRange) (job : ℕ) (r : LeafRange) → job < length (map range_of ranges)
    → r ≡ get_or ranges job r
    → All (λ range. range.first ≤ most_nodes) ranges → r.first ≤ most_nodes
first_in_limit ranges job r low read all =
    subst (λ (x : LeafRange). x.first ≤ most_nodes) (sym read) (All-get_or (λ range. range.first ≤ most_nodes) ranges job r
    (subst (λ n. job < n) (length-map ranges range_of) low) all)
