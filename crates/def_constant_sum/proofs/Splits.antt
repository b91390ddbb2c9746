-- A number at each path that is the sum of those at the children: the leaves' numbers add up to the root's.
use Rattle.std.proofs.Common.{◌≡◌, ℕ, ◌+◌, Bool, true, false, cond, List, ◌∷◌, ◌++◌, refl, ap, sym, ◌∙◌}
use Rattle.std.specs.Prelude.{ℤ, pos, ◌+ℤ◌, All}
use Rattle.std.specs.List.{range_with_len}
use Rattle.std.proofs.lemmas.List.Elements.{All-cons, All-head, All-nil, All-tail}
use Rattle.def_sums.specs.Sum.{sum_over}
use Rattle.def_sums.proofs.RingLaws.{+ℤ_assoc, +ℤ-zero, zero-+ℤ}
use Rattle.def_sums.proofs.SumLaws.{sum_over-append}
use Rattle.def_tree.specs.Tree.{Forest, bare, grown, tree_count, HasItsChildren}
use Rattle.def_tree.proofs.Fronts.{All-behind, All-front}
use Rattle.def_game_paths.specs.Paths.{Move, Visit, is_leaf, visits_from}

-- the path that goes on from a node by an action
abbrev pub onward : Visit → ℕ → List Move
onward v action = record { node = v.node; action = action } ∷ v.path

-- a leaf has no children; at any other node, where the property holds there and at the children, the children's numbers
-- add up to the node's
pub record Splits (number : List Move → ℤ) (Has : List Move → Type 0) (v : Visit) : Type 0 where
  pub leaf : is_leaf v ≡ true → v.node.children ≡ 0
  pub inner : is_leaf v ≡ false → Has v.path → All (λ a. Has (onward v a)) (range_with_len 1 v.node.children)
      → sum_over (λ a. number (onward v a)) (range_with_len 1 v.node.children) ≡ number v.path

-- the trees' roots are visited
roots_all : (P : List Move → Type 0) (above : ℕ → List Move) (action : ℕ) (trees : Forest)
    → All (λ v. P v.path) (visits_from above action trees) → All (λ a. P (above a)) (range_with_len action (tree_count trees))
roots_all P above action bare all = All-nil (λ a. P (above a))
roots_all P above action (grown node below beside) all =
    let v : Visit = record { path = above action; node = node } in
    let under : List Visit = visits_from (λ next. record { node = node; action = next } ∷ above action) 1 below in
    let later : List Visit = visits_from above (action + 1) beside in
    let At : Visit → Type 0 = λ w. P w.path in
    All-cons (λ a. P (above a)) action (range_with_len (action + 1) (tree_count beside)) (All-head At v (under ++ later) all)
    (roots_all P above (action + 1) beside (All-behind At under later (All-tail At v (under ++ later) all)))

module _ (number : List Move → ℤ) (Has : List Move → Type 0) where
  abbrev pub at_leaf : Visit → ℤ
  at_leaf v = cond (is_leaf v) (number v.path) (pos 0)

  -- a node's number, by the sum over the visits below it
  node_sum : (v : Visit) (b : Bool) (total : ℤ) → is_leaf v ≡ b → Splits number Has v → Has v.path
      → All (λ a. Has (onward v a)) (range_with_len 1 v.node.children)
      → total ≡ sum_over (λ a. number (onward v a)) (range_with_len 1 v.node.children)
      → cond b (number v.path) (pos 0) +ℤ total ≡ number v.path
  node_sum v true total leaf splits here there e =
      ap (λ z. number v.path +ℤ z) (e ∙ ap (λ n. sum_over (λ a. number (onward v a)) (range_with_len 1 n)) (splits.leaf leaf)) ∙ +ℤ-zero (number v.path)
  node_sum v false total inner splits here there e = zero-+ℤ total ∙ e ∙ splits.inner inner here there

  -- the leaves of trees add up to the trees' roots
  pub forest_sum : (above : ℕ → List Move) (action : ℕ) (trees : Forest) → HasItsChildren trees
      → All (λ v. Has v.path) (visits_from above action trees) → All (Splits number Has) (visits_from above action trees)
      → sum_over at_leaf (visits_from above action trees) ≡ sum_over (λ a. number (above a)) (range_with_len action (tree_count trees))
  forest_sum above action bare children all splits = refl
  forest_sum above action (grown node below beside) children all splits =
      let v : Visit = record { path = above action; node = node } in
      let down : ℕ → List Move = λ next. record { node = node; action = next } ∷ above action in
      let under : List Visit = visits_from down 1 below in
      let later : List Visit = visits_from above (action + 1) beside in
      let At : Visit → Type 0 = λ w. Has w.path in
      let S : Visit → Type 0 = Splits number Has in
      let all_rest = All-tail At v (under ++ later) all in
      let splits_rest = All-tail S v (under ++ later) splits in
      let all_under = All-front At under later all_rest in
      let count : tree_count below ≡ node.children = children.0 in
      let sum_under : sum_over at_leaf under ≡ sum_over (λ a. number (onward v a)) (range_with_len 1 node.children) =
      forest_sum down 1 below children.1 all_under (All-front S under later splits_rest)
      ∙ ap (λ n. sum_over (λ a. number (onward v a)) (range_with_len 1 n)) count in
      let roots : All (λ a. Has (onward v a)) (range_with_len 1 node.children) = rw count at (roots_all Has down 1 below all_under) in
      let here : at_leaf v +ℤ sum_over at_leaf under ≡ number (above action) =
      node_sum v (is_leaf v) (sum_over at_leaf under) refl (All-head S v (under ++ later) splits) (All-head At v (under ++ later) all) roots sum_under in
      ap (λ z. at_leaf v +ℤ z) (sum_over-append at_leaf under later)
      ∙ sym (+ℤ_assoc (at_leaf v) (sum_over at_leaf under) (sum_over at_leaf later))
      ∙ ap (λ z. z +ℤ sum_over at_leaf later) here
      ∙ ap (λ z. number (above action) +ℤ z) (forest_sum above (action + 1) beside children.2 (All-behind At under later all_rest)
      (All-behind S under later splits_rest))
