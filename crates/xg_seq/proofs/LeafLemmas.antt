-- The leaves among the first k nodes of a tree, and one node more.
use Rattle.std.proofs.Common.{◌≡◌, ℕ, ◌+◌, ◌-◌, ◌<◌, ◌≤◌, true, false, cond, List, [], ◌∷◌, ◌++◌, length, get_or, take, drop, map, filter, not, refl, ap, sym}
use Rattle.std.proofs.Common.{◌∙◌, arith, append-nil, length-append, take-append-drop, ℤ, pos, Some, slice_get}
use Rattle.std.proofs.lemmas.List.{get_or-map, length-map, map-append, take_all}
use Rattle.std.proofs.lemmas.List.Elements.{filter-append}
use Rattle.std.proofs.lemmas.List.Filters.{length-filter_both}
use Rattle.std.proofs.lemmas.Option.{get_or_from_slice_get}
use Rattle.def_tree.specs.declared.Kind.{Kind}
use Rattle.def_tree.specs.declared.Kind.TheVariants.{One, Two}
use Rattle.def_tree.specs.declared.Node.{Node}
use Rattle.def_tree.specs.Tree.{Forest, is_leaf_kind, leaf_count, node_count, prefix}
use Rattle.def_tree.specs.Rules.{IsGameTree}
use Rattle.def_game_paths.specs.Paths.{Visit, leaf_visits, visits, is_leaf}
use Rattle.def_game_paths.specs.Sequences.{sequence_at}
use Rattle.def_sequence_form.specs.Form.{leaves_with}
use Rattle.def_sequence_form.proofs.Leaves.{leaves_counted, length-leaves_with, leaf_at}
use Rattle.def_game_paths.specs.Coming.{no_visit, visit_after}
use Rattle.def_game_paths.proofs.Coming.{IsNext, length-visits, next_node, next_visit}
use Rattle.xg_seq.specs.declared.leaf.Leaf.{Leaf as LeafRow}
use Rattle.xg_seq.specs.Leaves.{leaf_of}

-- the leaves among the first k nodes
abbrev pub leaf_visits_before : Forest → ℕ → List Visit
leaf_visits_before tree k = filter (λ v. is_leaf_kind v.node.kind) (take k (visits tree))

-- these leaves, with the weights in turn
abbrev pub AreLeavesBefore : Forest → List ℤ → ℕ → List LeafRow → Type 0
AreLeavesBefore tree weights k leaves = map leaf_of leaves ≡ leaves_with tree (leaf_visits_before tree k) weights

leaves_with-append : (tree : Forest) (vs : List Visit) (v : Visit) (weights : List ℤ) (d : ℤ)
    → length vs < length weights
    → leaves_with tree (vs ++ v ∷ []) weights
    ≡ leaves_with tree vs weights ++ leaf_at tree v (get_or weights (length vs) d) ∷ []
leaves_with-append tree vs v [] d few = absurd (omega arith)
leaves_with-append tree [] v (w ∷ weights) d few = refl
leaves_with-append tree (u ∷ vs) v (w ∷ weights) d few = ap (λ zs. leaf_at tree u w ∷ zs) (leaves_with-append tree vs v weights d (omega arith))

-- no more than all leaves
few_before : (tree : Forest) (k : ℕ) → length (leaf_visits_before tree k) ≤ leaf_count (prefix tree)
few_before tree k =
    omega (
      arith,
      leaves_counted tree,
      ap (λ vs. length (filter is_leaf vs)) (take-append-drop k (visits tree)),
      ap length (filter-append is_leaf (take k (visits tree)) (drop k (visits tree))),
      length-append (leaf_visits_before tree k) (filter is_leaf (drop k (visits tree))),
    )

-- a tree has no more leaves than nodes
pub leaves_are_few : (tree : Forest) → leaf_count (prefix tree) ≤ node_count tree
leaves_are_few tree =
    omega (arith, leaves_counted tree, length-filter_both is_leaf (λ v. not (is_leaf v)) (λ v. refl) (visits tree), length-visits tree)

-- after the last node these are all leaves
pub all_leaves : (tree : Forest) (k : ℕ) → k ≡ node_count tree → leaf_visits_before tree k ≡ leaf_visits tree
all_leaves tree k last = ap (filter is_leaf) (take_all k (visits tree) (omega (arith, length-visits tree)))

module _ (tree : Forest) (game : IsGameTree tree) (k : ℕ) (there : k < node_count tree) (x : Node)
    (read : slice_get (prefix tree) (k + 1 - 1) ≡ Some x) where
  abbrev v : Visit
  v = visit_after tree k

  abbrev next : IsNext tree k v
  next = next_visit tree k game there

  is_node : v.node ≡ x
  is_node = next_node tree k (k + 1 - 1) x there (omega arith) read

  before_more : leaf_visits_before tree (k + 1) ≡ leaf_visits_before tree k ++ cond (is_leaf_kind x.kind) (v ∷ []) []
  before_more = ap (filter is_leaf) next.taken ∙ filter-append is_leaf (take k (visits tree)) (v ∷ [])
      ∙ ap (λ y. leaf_visits_before tree k ++ cond (is_leaf_kind y.kind) (v ∷ []) []) is_node

  -- a node that isn't a leaf adds none
  pub no_leaf_more : is_leaf_kind x.kind ≡ false → leaf_visits_before tree (k + 1) ≡ leaf_visits_before tree k
  no_leaf_more inner = before_more ∙ ap (λ b. leaf_visits_before tree k ++ cond b (v ∷ []) []) inner ∙ append-nil (leaf_visits_before tree k)

  leaf_more : is_leaf_kind x.kind ≡ true → leaf_visits_before tree (k + 1) ≡ leaf_visits_before tree k ++ v ∷ []
  leaf_more is = before_more ∙ ap (λ b. leaf_visits_before tree k ++ cond b (v ∷ []) []) is

  room : is_leaf_kind x.kind ≡ true → length (leaf_visits_before tree k) < leaf_count (prefix tree)
  room is = omega (arith, few_before tree (k + 1), ap length (leaf_more is), length-append (leaf_visits_before tree k) (v ∷ []))

  module _ (weights : List ℤ) (many : length weights ≡ leaf_count (prefix tree)) (leaves : List LeafRow)
      (are : AreLeavesBefore tree weights k leaves) where
    count : length leaves ≡ length (leaf_visits_before tree k)
    count = sym (length-map leaves leaf_of) ∙ ap length are ∙ length-leaves_with tree (leaf_visits_before tree k) weights (omega (arith, few_before tree k))

    -- there is a weight for the leaf
    pub weight_there : is_leaf_kind x.kind ≡ true → length leaves < length weights
    weight_there is = omega (arith, count, room is)

    known : (kind : Kind) (s : ℕ) → slice_get (map (sequence_at kind tree) (visits tree)) (k + 1 - 1) ≡ Some s
        → s ≡ sequence_at kind tree v
    known kind s got =
        let index : k + 1 - 1 ≡ k = omega arith in
        sym (get_or_from_slice_get (map (sequence_at kind tree) (visits tree)) k s 0
        (ap (slice_get (map (sequence_at kind tree) (visits tree))) (sym index) ∙ got))
        ∙ get_or-map (sequence_at kind tree) (visits tree) k no_visit 0 next.there

    -- the leaf with its sequences and its weight is one more
    pub leaves_more : is_leaf_kind x.kind ≡ true → (z : LeafRow)
        → slice_get (map (sequence_at One tree) (visits tree)) (k + 1 - 1) ≡ Some z.seq1
        → slice_get (map (sequence_at Two tree) (visits tree)) (k + 1 - 1) ≡ Some z.seq2 →
        z.w ≡ get_or weights (length leaves) (pos 0) → AreLeavesBefore tree weights (k + 1) (leaves ++ z ∷ [])
    leaves_more is z one two weight =
        let weight_is : z.w ≡ get_or weights (length (leaf_visits_before tree k)) (pos 0) = weight ∙ ap (λ n. get_or weights n (pos 0)) count in
        map-append leaf_of leaves (z ∷ [])
        ∙ (λ i. are i ++ record { sequence_one = known One z.seq1 one i; sequence_two = known Two z.seq2 two i; weight = weight_is i } ∷ [])
        ∙ sym (leaves_with-append tree (leaf_visits_before tree k) v weights (pos 0) (omega (arith, room is)))
        ∙ ap (λ vs. leaves_with tree vs weights) (sym (leaf_more is))
