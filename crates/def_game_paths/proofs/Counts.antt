-- The own choices on a path are actions of the player's sets; and sets and sequences are no more than nodes.
use Rattle.std.proofs.Common.{◌≡◌, ℕ, suc, ◌+◌, ◌-◌, ◌<◌, ◌≤◌, true, false, cond, ◌&&◌, List, [], ◌∷◌, ◌++◌, length, get_or, take, map, refl, ap, sym, subst}
use Rattle.std.proofs.Common.{◌∙◌, arith, length-append}
use Rattle.std.specs.Prelude.{sum, nat_eq, All}
use Rattle.std.proofs.lemmas.Bool.{and_parts}
use Rattle.std.proofs.lemmas.List.{get_or-map, length-map, map-append}
use Rattle.std.proofs.lemmas.List.Elements.{All-nil, All-cons, All-head, All-tail, All-map}
use Rattle.std.proofs.lemmas.List.Sums.{sum_by-append, sum_by-cons, sum_by_more_le}
use Rattle.def_tree.specs.declared.Kind.{Kind}
use Rattle.def_tree.specs.declared.Node.{Node}
use Rattle.def_tree.specs.Tree.{Forest, bare, grown, prefix, tree_count, HasItsChildren, is_leaf_kind}
use Rattle.def_tree.specs.Rules.{is_same_kind, set_count, FitsAs, JoinsSet, KeepRules, IsGameTree}
use Rattle.def_tree.proofs.Sets.{is_same_kind-true}
use Rattle.def_game_paths.specs.Paths.{Move, Visit, visits, Choice, own_choices, GoesThrough}
use Rattle.def_game_paths.specs.Sequences.{set_firsts, set_sizes, sequence_number, IsChoiceOf, EachSequenceIsInRange, SequencesAreFew}
use Rattle.def_game_paths.proofs.Visits.{map-visits_from}
use Rattle.def_game_paths.proofs.Order.{visited_node, joins_of}
use Rattle.def_game_paths.proofs.Ancestors.{parents_come_before, size_held, sizes_known}

module _ (tree : Forest) (kind : Kind) (game : IsGameTree tree) (inner : is_leaf_kind kind ≡ false) where
  choices_known : (i : ℕ) (path : List Move) → GoesThrough (take i (visits tree)) path
      → All (IsChoiceOf (set_sizes kind tree)) (own_choices kind path)
  choices_known i [] through = All-nil (IsChoiceOf (set_sizes kind tree))
  choices_known i (move ∷ rest) through =
      elim (is_same_kind kind move.node.kind) as (λ b. is_same_kind kind move.node.kind ≡ b →
      All (IsChoiceOf (set_sizes kind tree)) (cond b (record { set = move.node.set; action = move.action } ∷ own_choices kind rest) (own_choices kind rest))) [
        | true ↦ λ same.
            let held = size_held tree kind game inner i (record { path = rest; node = move.node }) through.0.0 (is_same_kind-true kind move.node.kind same) in
            let size : get_or (set_sizes kind tree) (move.node.set - 1) 0 ≡ move.node.children = held.2 in
            let limit : move.action ≤ move.node.children = through.0.1.1 in
            All-cons (IsChoiceOf (set_sizes kind tree)) (record { set = move.node.set; action = move.action }) (own_choices kind rest)
            (record { counts = held.0; known = held.1; some = through.0.1.0; limit = omega arith }) (choices_known i rest through.1)
        | false ↦ λ other. choices_known i rest through.1
      ] refl

number_small : (sizes : List ℕ) (own : List Choice) → All (IsChoiceOf sizes) own
    → sequence_number sizes own < 1 + sum sizes
number_small sizes [] are = omega arith
number_small sizes (choice ∷ rest) are =
    let is : IsChoiceOf sizes choice = All-head (IsChoiceOf sizes) choice rest are in
    let counts : 1 ≤ choice.set = is.counts in
    let known : choice.set ≤ length sizes = is.known in
    let some : 1 ≤ choice.action = is.some in
    let limit : choice.action ≤ get_or sizes (choice.set - 1) 0 = is.limit in
    omega (arith, sum_by_more_le (λ n. n) sizes (choice.set - 1) 0 (omega arith))

-- each node's last own choice is one its set has, and its sequence's number is one of all
pub each_sequence_is_in_range : EachSequenceIsInRange
each_sequence_is_in_range tree game kind inner k d there =
    let v : Visit = get_or (visits tree) k d in
    let are = choices_known tree kind game inner k v.path (parents_come_before tree game.tree k d there) in
    record { choices = are; below = number_small (set_sizes kind tree) (own_choices kind v.path) are }

-- what holds of the kind's nodes holds of the first ones of its sets
pub firsts_all : (P : Visit → Type 0) (kind : Kind) (seen : ℕ) (vs : List Visit)
    → All (λ v. v.node.kind ≡ kind → P v) vs → All P (set_firsts kind seen vs)
firsts_all P kind seen [] all = All-nil P
firsts_all P kind seen (v ∷ rest) all =
    let later : All (λ (w : Visit). w.node.kind ≡ kind → P w) rest = All-tail (λ w. w.node.kind ≡ kind → P w) v rest all in
    elim (is_same_kind kind v.node.kind && nat_eq v.node.set (seen + 1)) as (λ b. is_same_kind kind v.node.kind && nat_eq v.node.set (seen + 1) ≡ b →
    All P (cond b (v ∷ set_firsts kind (seen + 1) rest) (set_firsts kind seen rest))) [
      | true ↦ λ first.
          let parts = and_parts (is_same_kind kind v.node.kind) (nat_eq v.node.set (seen + 1)) first in
          All-cons P v (set_firsts kind (seen + 1) rest) (All-head (λ w. w.node.kind ≡ kind → P w) v rest all (is_same_kind-true kind v.node.kind parts.0))
          (firsts_all P kind (seen + 1) rest later)
      | false ↦ λ other. firsts_all P kind seen rest later
    ] refl

abbrev HasActions : Node → Type 0
HasActions node = (1 ≤ node.children) × (node.children ≤ 1024)

nodes_have : (kind : Kind) (nodes : List Node) → is_leaf_kind kind ≡ false → KeepRules nodes
    → All (λ node. node.kind ≡ kind → HasActions node) nodes
nodes_have kind nodes inner keep k d there is =
    let joins : JoinsSet (take k nodes) (get_or nodes k d) = joins_of kind (take k nodes) (get_or nodes k d) inner is
    (subst (λ h. FitsAs h (take k nodes) (get_or nodes k d)) is (keep k d there)) in
    (joins.some, joins.limit)

-- each first node of a set has 1 to 1,024 children
pub firsts_have : (tree : Forest) (kind : Kind) → IsGameTree tree → is_leaf_kind kind ≡ false
    → All (λ v. HasActions v.node) (set_firsts kind 0 (visits tree))
firsts_have tree kind game inner =
    let P : Node → Type 0 = λ node. node.kind ≡ kind → HasActions node in
    let nodes : map visited_node (visits tree) ≡ prefix tree = map-visits_from (λ _. []) 1 tree in
    let have : All P (map visited_node (visits tree)) = subst (All P) (sym nodes) (nodes_have kind (prefix tree) inner game.rules) in
    firsts_all (λ v. HasActions v.node) kind 0 (visits tree)
    (λ i e within. subst P (get_or-map visited_node (visits tree) i e e.node within) (have i e.node (omega (arith, length-map (visits tree) visited_node))))

abbrev size_of : Visit → ℕ
size_of v = v.node.children

abbrev children_of : Node → ℕ
children_of node = node.children

-- each node but the roots is a child
children_all : (trees : Forest) → HasItsChildren trees
    → sum (map children_of (prefix trees)) + tree_count trees ≡ length (prefix trees)
children_all bare has = refl
children_all (grown node below beside) has =
    let count : tree_count below ≡ node.children = has.0 in
    omega (
      arith,
      children_all below has.1,
      children_all beside has.2,
      sum_by-cons (λ n. n) node.children (map children_of (prefix below ++ prefix beside)),
      ap sum (map-append children_of (prefix below) (prefix beside)),
      sum_by-append (λ n. n) (map children_of (prefix below)) (map children_of (prefix beside)),
      length-append (prefix below) (prefix beside),
    )

firsts_sum : (kind : Kind) (seen : ℕ) (vs : List Visit)
    → sum (map size_of (set_firsts kind seen vs)) ≤ sum (map children_of (map visited_node vs))
firsts_sum kind seen [] = omega arith
firsts_sum kind seen (v ∷ rest) =
    let whole : sum (map children_of (map visited_node (v ∷ rest))) ≡ v.node.children
    + sum (map children_of (map visited_node rest)) = sum_by-cons (λ n. n) v.node.children (map children_of (map visited_node rest)) in
    elim (is_same_kind kind v.node.kind && nat_eq v.node.set (seen + 1)) as (λ b.
    sum (map size_of (cond b (v ∷ set_firsts kind (seen + 1) rest) (set_firsts kind seen rest))) ≤ sum (map children_of (map visited_node (v ∷ rest)))) [
      | true ↦ omega (arith, firsts_sum kind (seen + 1) rest, sum_by-cons (λ n. n) v.node.children (map size_of (set_firsts kind (seen + 1) rest)))
      | false ↦ omega (arith, firsts_sum kind seen rest)
    ]

firsts_length : (kind : Kind) (seen : ℕ) (vs : List Visit) → length (set_firsts kind seen vs) ≤ length vs
firsts_length kind seen [] = omega arith
firsts_length kind seen (v ∷ rest) =
    elim (is_same_kind kind v.node.kind && nat_eq v.node.set (seen + 1)) as
    (λ b. length (cond b (v ∷ set_firsts kind (seen + 1) rest) (set_firsts kind seen rest)) ≤ suc (length rest)) [
      | true ↦ omega (arith, firsts_length kind (seen + 1) rest)
      | false ↦ omega (arith, firsts_length kind seen rest)
    ]

-- a game has no more sets and no more sequences of a kind than it has nodes
pub sequences_are_few : SequencesAreFew
sequences_are_few tree game kind inner =
    let firsts : List Visit = set_firsts kind 0 (visits tree) in
    let nodes : map visited_node (visits tree) ≡ prefix tree = map-visits_from (λ _. []) 1 tree in
    let many : length (visits tree) ≡ length (prefix tree) = sym (length-map (visits tree) visited_node) ∙ ap length nodes in
    let one : tree_count tree ≡ 1 = game.tree.one in
    let below : sum (map size_of firsts) ≤ sum (map children_of (prefix tree)) = subst (λ ns. sum (map size_of firsts) ≤ sum (map children_of ns)) nodes
    (firsts_sum kind 0 (visits tree)) in
    record {
      actions = All-map (λ size. (1 ≤ size) × (size ≤ 1024)) size_of firsts (firsts_have tree kind game inner);
      sets = (sizes_known tree kind game inner).count ∙ ap (set_count kind) nodes;
      few_sets = omega (arith, length-map firsts size_of, firsts_length kind 0 (visits tree));
      few_sequences = omega (arith, children_all tree game.tree.children);
    }
