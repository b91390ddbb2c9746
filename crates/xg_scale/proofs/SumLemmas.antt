-- The sum in the unit, which is asked at the first leaf.
use Rattle.std.proofs.Common.{◌≡◌, ℕ, ◌+◌, ◌-◌, ◌<◌, ◌≤◌, Bool, true, false, not, ◌&&◌, List, [], ◌∷◌, ◌++◌, take, refl, ap, sym, subst, ◌∙◌, arith, Some, None}
use Rattle.std.proofs.Common.{slice_get}
use Rattle.std.specs.Prelude.{nat_le, nat_lt, unsigned_abs, unwrap_or}
use Rattle.std.proofs.lemmas.Bool.{le-ltb, leb-false, leb-true, lt-ltb}
use Rattle.def_tree.specs.declared.Node.{Node}
use Rattle.def_tree.specs.Tree.{Forest, is_leaf_kind, node_count, prefix}
use Rattle.def_tree.specs.Rules.{IsGameTree}
use Rattle.def_fraction.specs.Fraction.{Fraction, most, zero_fraction}
use Rattle.def_file.specs.declared.FileFault.TheVariants as faults
use Rattle.def_game_paths.specs.Coming.{visit_after}
use Rattle.def_game_paths.specs.Paths.{Visit, is_leaf, visits}
use Rattle.def_game_paths.proofs.Coming.{IsNext, next_node, next_visit}
use Rattle.def_game_scale.specs.Tables.{Tables}
use Rattle.def_game_scale.specs.Scale.{weight_of, whole_sum}
use Rattle.def_game_scale.specs.Faults.{Scale, found_by, number_after, or_else, passing, whole_sum_fault}
use Rattle.xg_scale.specs.declared.leaf.Expected.{Expected}
use Rattle.xg_scale.specs.FaultOfFile.{IsFaultOf}
use Rattle.xg_scale.specs.Walked.{IsExpectedOf}
use Rattle.xg_scale.specs.Weighed.{PassedWholeSum}
use Rattle.xg_scale.proofs.FoundLemmas.{found_here, found_later, number_next}

none_here : (size : ℕ) (before : List Visit) (v : Visit) (b : Bool) → is_leaf v ≡ b → nat_lt most size ≡ false
    → whole_sum_fault size before v ≡ None
none_here size before v true leaf within = λ i. passing (not (leaf i && within i)) (Scale (number_after before)) None
none_here size before v false inner within = λ i. passing (not (inner i && within i)) (Scale (number_after before)) None

none_along : (size : ℕ) (before nodes : List Visit) → nat_lt most size ≡ false
    → found_by (whole_sum_fault size) before nodes ≡ None
none_along size before [] within = refl
none_along size before (v ∷ rest) within =
    ap (λ o. or_else o (found_by (whole_sum_fault size) (before ++ v ∷ []) rest)) (none_here size before v (is_leaf v) refl within)
    ∙ none_along size (before ++ v ∷ []) rest within

module _ (tables : Tables) (tree : Forest) (found : Expected) (are : IsExpectedOf tables tree found) (f : Fraction)
    (sum : f ≡ unwrap_or found.sum zero_fraction) where
  abbrev pub size : ℕ
  size = unsigned_abs (whole_sum tables tree)

  size_is : unsigned_abs (weight_of found.unit f) ≡ size
  size_is = λ i. unsigned_abs (weight_of (are.unit i) ((sum ∙ are.sum) i))

  -- where the sum in the unit is within the limit, no node has a fault
  pub sum_within : nat_le (unsigned_abs (weight_of found.unit f)) most ≡ true
      → found_by (whole_sum_fault size) [] (visits tree) ≡ None
  sum_within test =
      let within : unsigned_abs (weight_of found.unit f) ≤ most = leb-true (unsigned_abs (weight_of found.unit f)) most test in
      none_along size [] (visits tree) (le-ltb most size (omega (arith, within, size_is)))

  module _ (game : IsGameTree tree) (k : ℕ) (there : k < node_count tree) (x : Node)
      (read : slice_get (prefix tree) (k + 1 - 1) ≡ Some x) (passed : PassedWholeSum tree size k) where
    abbrev v : Visit
    v = visit_after tree k

    abbrev next : IsNext tree k v
    next = next_visit tree k game there

    leaf_is : is_leaf_kind v.node.kind ≡ is_leaf_kind x.kind
    leaf_is = ap (λ (y : Node). is_leaf_kind y.kind) (next_node tree k (k + 1 - 1) x there (omega arith) read)

    -- a node that isn't a leaf is passed over
    pub sum_passed : is_leaf_kind x.kind ≡ false → PassedWholeSum tree size (k + 1)
    sum_passed inner =
        passed ∙ found_later tree (whole_sum_fault size) k v next (ap (λ b. passing (not (b && nat_lt most size)) (Scale (number_after (take k (visits tree))))
        None) (leaf_is ∙ inner))

    -- where the sum in the unit is past the limit, the first leaf has the fault
    pub sum_past : is_leaf_kind x.kind ≡ true → nat_le (unsigned_abs (weight_of found.unit f)) most ≡ false
        → IsFaultOf (found_by (whole_sum_fault size) [] (visits tree)) (faults.Scale (k + 1))
    sum_past leaf test =
        let over : most < unsigned_abs (weight_of found.unit f) = leb-false (unsigned_abs (weight_of found.unit f)) most test in
        let past : nat_lt most size ≡ true = lt-ltb most size (omega (arith, over, size_is)) in
        subst (λ o. IsFaultOf o (faults.Scale (k + 1))) (sym passed)
        (found_here tree (whole_sum_fault size) k v next (Some (Scale (k + 1))) (faults.Scale (k + 1))
        (λ i. passing (not ((leaf_is ∙ leaf) i && past i)) (Scale (number_next tree k there i)) None) refl)
