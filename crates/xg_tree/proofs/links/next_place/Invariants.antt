use Rattle.std.proofs.Common.{◌≡◌, ◌≤◌, length}
use Rattle.xg_tree.specs.Linked.{next_place, place_from}
use Rattle.xg_tree.proofs.links.next_place.Given as goal

abbrev pub invariant-loop-place : goal.invariant-loop-place
invariant-loop-place l = record {
  within : l.place.parent ≤ length l.links;
  going : place_from (length l.links) l.links l.place.parent l.place.previous
      ≡ next_place l.links;
}

abbrev pub decreases-loop-place : goal.decreases-loop-place
decreases-loop-place l = l.place.parent
