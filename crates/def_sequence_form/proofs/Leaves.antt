-- The leaves of the form are those of the list, and their sequences tell their own choices.
use Rattle.std.proofs.Common.{◌≡◌, ℕ, zero, suc, ◌+◌, ◌<◌, ◌≤◌, true, false, cond, List, [], ◌∷◌, length, get_or, map, refl, ap, sym, subst, ◌∙◌, arith}
use Rattle.std.specs.Prelude.{sum, ℤ, pos, unsigned_abs, filter, All, Contains}
use Rattle.std.proofs.lemmas.List.{get_or_default, get_or-map, length-map}
use Rattle.std.proofs.lemmas.List.Elements.{All-contains_itself, All-filter, All-head}
use Rattle.std.proofs.lemmas.List.Sums.{length-filter, sum_by-cons}
use Rattle.def_tree.specs.declared.Kind.{Kind}
use Rattle.def_tree.specs.declared.Kind.TheVariants.{One, Two}
use Rattle.def_tree.specs.declared.Node.{Node}
use Rattle.def_tree.specs.Tree.{Forest, prefix, node_count, leaf_count, is_leaf_kind}
use Rattle.def_tree.specs.Rules.{IsGameTree}
use Rattle.def_game_paths.specs.Paths.{Visit, visits, leaf_visits, Choice, own_choices}
use Rattle.def_game_paths.specs.Recall.{HasPerfectRecall, is_personal}
use Rattle.def_game_paths.specs.Sequences.{choice_of, sequence_at, sequence_number, set_firsts, set_sizes, IsChoiceOf, SequencesAreInRange}
use Rattle.def_game_paths.proofs.Visits.{map-visits_from}
use Rattle.def_game_paths.proofs.Order.{visited_node}
use Rattle.def_game_paths.proofs.Ancestors.{choices_from_numbers}
use Rattle.def_game_paths.proofs.Choices.{of_choice}
use Rattle.def_game_paths.proofs.Counts.{each_sequence_is_in_range}
use Rattle.def_game_scale.specs.Tables.{Tables}
use Rattle.def_game_scale.specs.Scale.{all_expected, expected, weights}
use Rattle.def_plan.specs.Payoff.{mass_of}
use Rattle.def_plan.specs.Form.{InformationSet, Leaf}
use Rattle.def_sequence_form.specs.Form.{LeafEntry, leaf_entry, leaf_list, leaves_with, form_of}
use Rattle.def_sequence_form.specs.Sets.{sets_with_nodes}
use Rattle.def_sequence_form.specs.Laws.{last_of_choices, LeafHasItsChoices, TellsChoices, FormHasTheLeafList, FormHasTheMass, TellsEachNode, TreeSetsTellNodes}
use Rattle.def_sequence_form.proofs.Sets.{counts_agree, set_of_visit}

-- the leaves among visits are as many as among their nodes
leaves_alike : (vs : List Visit)
    → length (filter (λ (v : Visit). is_leaf_kind v.node.kind) vs)
    ≡ length (filter (λ (n : Node). is_leaf_kind n.kind) (map visited_node vs))
leaves_alike [] = refl
leaves_alike (v ∷ rest) =
    elim (is_leaf_kind v.node.kind) as (λ b. length (cond b (v ∷ filter (λ (w : Visit). is_leaf_kind w.node.kind) rest)
    (filter (λ (w : Visit). is_leaf_kind w.node.kind) rest))
    ≡ length (cond b (v.node ∷ filter (λ (n : Node). is_leaf_kind n.kind) (map visited_node rest))
    (filter (λ (n : Node). is_leaf_kind n.kind) (map visited_node rest)))) [
      | true ↦ ap suc (leaves_alike rest)
      | false ↦ leaves_alike rest
    ]

-- a tree has as many visits of leaves as leaves
pub leaves_counted : (tree : Forest) → length (leaf_visits tree) ≡ leaf_count (prefix tree)
leaves_counted tree = leaves_alike (visits tree) ∙ ap (λ ns. length (filter (λ (n : Node). is_leaf_kind n.kind) ns)) (map-visits_from (λ _. []) 1 tree)
    ∙ length-filter (λ (n : Node). is_leaf_kind n.kind) (prefix tree)

-- the form's leaf at a visit, with a weight
abbrev pub leaf_at : Forest → Visit → ℤ → Leaf
leaf_at tree v weight = record { sequence_one = sequence_at One tree v; sequence_two = sequence_at Two tree v; weight = weight }

-- there is a leaf for each visit, where there are weights enough
pub length-leaves_with : (tree : Forest) (vs : List Visit) (weights : List ℤ) → length vs ≤ length weights
    → length (leaves_with tree vs weights) ≡ length vs
length-leaves_with tree [] weights few = refl
length-leaves_with tree (v ∷ rest) [] few = absurd (omega arith)
length-leaves_with tree (v ∷ rest) (w ∷ weights) few = ap suc (length-leaves_with tree rest weights (omega arith))

weights-leaves_with : (tree : Forest) (vs : List Visit) (weights : List ℤ) → length weights ≡ length vs
    → map (λ (leaf : Leaf). leaf.weight) (leaves_with tree vs weights) ≡ weights
weights-leaves_with tree [] [] e = refl
weights-leaves_with tree [] (w ∷ weights) e = absurd (omega arith)
weights-leaves_with tree (v ∷ rest) [] e = absurd (omega arith)
weights-leaves_with tree (v ∷ rest) (w ∷ weights) e = ap (λ ws. w ∷ ws) (weights-leaves_with tree rest weights (omega arith))

leaves_with-at : (tree : Forest) (vs : List Visit) (weights : List ℤ) (z : ℕ) (leaf : Leaf) (v : Visit) (w : ℤ)
    → length weights ≡ length vs → z < length vs
    → get_or (leaves_with tree vs weights) z leaf ≡ leaf_at tree (get_or vs z v) (get_or weights z w)
leaves_with-at tree [] weights z leaf d e same there = absurd (omega arith)
leaves_with-at tree (v ∷ rest) [] z leaf d e same there = absurd (omega arith)
leaves_with-at tree (v ∷ rest) (w ∷ weights) zero leaf d e same there = refl
leaves_with-at tree (v ∷ rest) (w ∷ weights) (suc z) leaf d e same there = leaves_with-at tree rest weights z leaf d e (omega arith) (omega arith)

-- the number of a sequence names its last choice
last_named : (sizes : List ℕ) (own : List Choice) → All (IsChoiceOf sizes) own
    → choice_of sizes (sequence_number sizes own) ≡ last_of_choices own
last_named sizes [] are = refl
last_named sizes (choice ∷ rest) are = of_choice sizes choice rest (All-head (IsChoiceOf sizes) choice rest are)

module _ (tables : Tables) (tree : Forest) (game : IsGameTree tree) where
  leaf_range : (kind : Kind) → is_leaf_kind kind ≡ false → All (SequencesAreInRange tree kind) (leaf_visits tree)
  leaf_range kind inner = All-filter (λ v. is_leaf_kind v.node.kind) (SequencesAreInRange tree kind) (visits tree)
      (each_sequence_is_in_range tree game kind inner)

  has_choices : (z : ℕ) (d : Visit) (weights : List ℤ) (weight : ℤ) → z < length (leaf_visits tree) →
      LeafHasItsChoices tree (form_of tree weights) (leaf_entry tables (get_or (leaf_visits tree) z d)) (leaf_at tree (get_or (leaf_visits tree) z d) weight)
  has_choices z d weights weight there =
      let one = leaf_range One refl z d there in
      let two = leaf_range Two refl z d there in
      let v : Visit = get_or (leaf_visits tree) z d in
      record {
        below_one = omega (arith, one.below, counts_agree One tree);
        below_two = omega (arith, two.below, counts_agree Two tree);
        last_one = last_named (set_sizes One tree) (own_choices One v.path) one.choices;
        last_two = last_named (set_sizes Two tree) (own_choices Two v.path) two.choices;
      }

  -- of visited nodes, equal numbers tell equal choices
  visits_by_choices : (kind : Kind) (v w : Visit) → HasPerfectRecall tree → is_personal kind ≡ true
      → Contains (visits tree) v
      → Contains (visits tree) w → sequence_at kind tree v ≡ sequence_at kind tree w →
      own_choices kind v.path ≡ own_choices kind w.path
  visits_by_choices kind v w recall personal at_v at_w same =
      let all : List Visit = visits tree in
      let there_v : at_v.0 < length all = at_v.1 in
      let there_w : at_w.0 < length all = at_w.1 in
      let is_v : get_or all at_v.0 v ≡ v = at_v.2 in
      let is_w : get_or all at_w.0 v ≡ w = get_or_default all at_w.0 v w there_w ∙ at_w.2 in
      ap (λ (x : Visit). own_choices kind x.path) (sym is_v)
      ∙ choices_from_numbers tree kind (length all) at_v.0 at_w.0 v game personal (λ p q e before below inside. recall p q e before inside) (omega arith)
      (omega arith) there_v there_w
      (ap (sequence_at kind tree) is_v ∙ same ∙ sym (ap (sequence_at kind tree) is_w))
      ∙ ap (λ (x : Visit). own_choices kind x.path) is_w

  leaves_visited : All (Contains (visits tree)) (leaf_visits tree)
  leaves_visited = All-filter (λ v. is_leaf_kind v.node.kind) (Contains (visits tree)) (visits tree) (All-contains_itself (visits tree))

  tells : HasPerfectRecall tree → (y z : ℕ) (d : Visit) (weight other_weight : ℤ) → y < length (leaf_visits tree)
      → z < length (leaf_visits tree) →
      TellsChoices (leaf_entry tables (get_or (leaf_visits tree) y d)) (leaf_entry tables (get_or (leaf_visits tree) z d))
      (leaf_at tree (get_or (leaf_visits tree) y d) weight) (leaf_at tree (get_or (leaf_visits tree) z d) other_weight)
  tells recall y z d weight other_weight here there =
      let v : Visit = get_or (leaf_visits tree) y d in
      let w : Visit = get_or (leaf_visits tree) z d in
      record {
        one = (visits_by_choices One v w recall refl (leaves_visited y d here) (leaves_visited z d there), ap (sequence_number (set_sizes One tree)));
        two = (visits_by_choices Two v w recall refl (leaves_visited y d here) (leaves_visited z d there), ap (sequence_number (set_sizes Two tree)));
      }

-- the form of a tree with a weight for each leaf has the leaves of the tree's list, in its order
pub form_has_the_leaf_list : FormHasTheLeafList
form_has_the_leaf_list tables tree weights game many =
    let vs : List Visit = leaf_visits tree in
    let d : Visit = record { path = []; node = record { kind = One; set = 0; outcome = 0; children = 0 } } in
    let none : ℤ = pos 0 in
    let count : length vs ≡ leaf_count (prefix tree) = leaves_counted tree in
    let same : length weights ≡ length vs = many ∙ sym count in
    let entry_is : (z : ℕ) (entry : LeafEntry) → z < length vs → get_or (leaf_list tables tree) z entry
    ≡ leaf_entry tables (get_or vs z d) = λ z entry there. get_or-map (leaf_entry tables) vs z d entry there in
    let leaf_is : (z : ℕ) (leaf : Leaf) → z < length vs → get_or (leaves_with tree vs weights) z leaf ≡ leaf_at tree (get_or vs z d) (get_or weights z none) =
    λ z leaf there. leaves_with-at tree vs weights z leaf d none same there in
    record {
      count = length-leaves_with tree vs weights (omega (arith, same)) ∙ count;
      entries = length-map vs (leaf_entry tables) ∙ count;
      weights_are = weights-leaves_with tree vs weights same;
      each = λ z entry leaf there.
          let here : z < length vs = omega arith in
          subst (λ e. LeafHasItsChoices tree (form_of tree weights) e (get_or (leaves_with tree vs weights) z leaf)) (sym (entry_is z entry here))
          (subst (LeafHasItsChoices tree (form_of tree weights) (leaf_entry tables (get_or vs z d))) (sym (leaf_is z leaf here))
          (has_choices tables tree game z d weights (get_or weights z none) here));
      pairs = λ recall y z entry leaf here there.
          let in_y : y < length vs = omega arith in
          let in_z : z < length vs = omega arith in
          pair_by_parts (leaf_entry tables (get_or vs y d)) (get_or (leaf_list tables tree) y entry) (leaf_entry tables (get_or vs z d))
          (get_or (leaf_list tables tree) z entry)
          (leaf_at tree (get_or vs y d) (get_or weights y none)) (get_or (leaves_with tree vs weights) y leaf)
          (leaf_at tree (get_or vs z d) (get_or weights z none)) (get_or (leaves_with tree vs weights) z leaf)
          (sym (entry_is y entry in_y)) (sym (entry_is z entry in_z)) (sym (leaf_is y leaf in_y)) (sym (leaf_is z leaf in_z))
          (tells tables tree game recall y z d (get_or weights y none) (get_or weights z none) in_y in_z);
    }
  where
    pair_by_parts : (a b c e : LeafEntry) (l m n o : Leaf) → a ≡ b → c ≡ e → l ≡ m → n ≡ o → TellsChoices a c l n
        → TellsChoices b e m o
    pair_by_parts a b c e l m n o ab ce lm right h = subst (λ x. TellsChoices x e m o) ab
        (subst (λ x. TellsChoices a x m o) ce (subst (λ x. TellsChoices a c x o) lm (subst (TellsChoices a c l) right h)))

sizes_of : (leaves : List Leaf) → mass_of leaves ≡ sum (map unsigned_abs (map (λ (leaf : Leaf). leaf.weight) leaves))
sizes_of [] = refl
sizes_of (leaf ∷ rest) = ap (λ n. unsigned_abs leaf.weight + n) (sizes_of rest)
    ∙ sym (sum_by-cons (λ n. n) (unsigned_abs leaf.weight) (map unsigned_abs (map (λ (z : Leaf). z.weight) rest)))

mass_of_weights : (tree : Forest) (weights : List ℤ) → length weights ≡ leaf_count (prefix tree)
    → mass_of (form_of tree weights).leaves ≡ sum (map unsigned_abs weights)
mass_of_weights tree weights many =
    let vs : List Visit = leaf_visits tree in
    sizes_of (leaves_with tree vs weights) ∙ ap (λ ws. sum (map unsigned_abs ws)) (weights-leaves_with tree vs weights (many ∙ sym (leaves_counted tree)))

-- the sizes of the form's weights add up to the game's mass
pub form_has_the_mass : FormHasTheMass
form_has_the_mass = record {
  of_weights = mass_of_weights;
  of_game = λ tables tree. mass_of_weights tree (weights tables tree) (length-map (all_expected tables tree) _ ∙ length-map (leaf_visits tree) (expected tables)
      ∙ leaves_counted tree);
}

sizes_map : (kind : Kind) (tree : Forest) (vs : List Visit)
    → map (λ (set : InformationSet). set.actions) (map (set_of_visit kind tree) vs) ≡ map (λ (v : Visit). v.node.children) vs
sizes_map kind tree [] = refl
sizes_map kind tree (v ∷ rest) = ap (λ ns. v.node.children ∷ ns) (sizes_map kind tree rest)

tells_each_node : (tree : Forest) (kind : Kind) → IsGameTree tree → is_leaf_kind kind ≡ false
    → TellsEachNode tree kind (sets_with_nodes kind tree)
tells_each_node tree kind game inner =
    let all : List Visit = visits tree in
    let long : length all ≡ node_count tree = sym (length-map all visited_node) ∙ ap length (map-visits_from (λ _. []) 1 tree) in
    record {
      sets = refl;
      count = length-map all (sequence_at kind tree) ∙ long;
      last = λ k d there.
          let here : k < length all = omega arith in
          let v : Visit = get_or all k d in
          ap (λ sizes. choice_of sizes (get_or (map (sequence_at kind tree) all) k 0)) (sizes_map kind tree (set_firsts kind 0 all))
          ∙ ap (choice_of (set_sizes kind tree)) (get_or-map (sequence_at kind tree) all k d 0 here)
          ∙ last_named (set_sizes kind tree) (own_choices kind v.path) (each_sequence_is_in_range tree game kind inner k d here).choices;
    }

-- each node is known by the number of the sequence that ends with the player's last own choice before it
pub tree_sets_tell_nodes : TreeSetsTellNodes
tree_sets_tell_nodes = record { one = λ tree game. tells_each_node tree One game refl; two = λ tree game. tells_each_node tree Two game refl }
