-- The sets of a tree are answered exactly where recall holds,
-- and then each set has its sequence and its actions from each of its nodes.
use Rattle.std.proofs.Common.{◌≡◌, ℕ, ◌+◌, ◌-◌, ◌<◌, ◌≤◌, true, false, List, [], length, get_or, refl, ap, sym, ◌∙◌, arith, inl, inr, Some, None, Ok, Err}
use Rattle.std.specs.Prelude.{Option}
use Rattle.std.proofs.lemmas.Bool.{cases_lt}
use Rattle.std.proofs.lemmas.List.{get_or-map, length-map}
use Rattle.std.proofs.lemmas.List.Elements.{Contains-get_or}
use Rattle.def_tree.specs.Tree.{Forest, prefix, is_leaf_kind}
use Rattle.def_tree.specs.Rules.{set_count}
use Rattle.def_game_paths.specs.Paths.{Visit, visits, own_choices}
use Rattle.def_game_paths.specs.Recall.{Numbered, RecallBreak, HasPerfectRecall, first_of_set, is_personal, past, recall_break}
use Rattle.def_game_paths.specs.Sequences.{sequence_number, set_firsts, set_sizes}
use Rattle.def_game_paths.proofs.Visits.{map-visits_from}
use Rattle.def_game_paths.proofs.Breaks.{HasFirst, break_first, first_found, first_of_set_same, is_same_set_by, none_of_recall, recall_of_none}
use Rattle.def_game_paths.proofs.Ancestors.{Contains-map, inner_by, sizes_known}
use Rattle.def_game_paths.proofs.Firsts.{firsts_are_first}
use Rattle.def_game_paths.proofs.Numbers.{not_behind}
use Rattle.def_sequence_form.specs.Sets.{TreeSets, tree_sets, unless_broken}
use Rattle.def_sequence_form.specs.Laws.{SetsAreExact, SetsHaveTheirNodes}
use Rattle.def_sequence_form.proofs.Sets.{set_of_visit}

none_is_broken : (o : Option RecallBreak) (sets shown : TreeSets) → unless_broken o sets ≡ Ok shown
    → (o ≡ None) × (shown ≡ sets)
none_is_broken None sets shown e = (refl, cc)
none_is_broken (Some broken) sets shown e = cc

-- what is answered in place of the sets is the break that was found
pub broken_by_break : (o : Option RecallBreak) (sets : TreeSets) (broken : RecallBreak)
    → unless_broken o sets ≡ Err broken
    → o ≡ Some broken
broken_by_break None sets broken e = cc
broken_by_break (Some found) sets broken e = cc

-- the sets are answered exactly where both players have perfect recall, and otherwise its first break
pub sets_are_exact : SetsAreExact
sets_are_exact = record {
  found = λ tree. (
    λ e. recall_of_none tree (none_is_broken (recall_break tree) (tree_sets tree) (tree_sets tree) e).0,
    λ recall. ap (λ o. unless_broken o (tree_sets tree)) (none_of_recall tree recall),
  );
  only = λ tree sets e. (none_is_broken (recall_break tree) (tree_sets tree) sets e).1;
  broken = λ tree d broken e. break_first tree d broken (broken_by_break (recall_break tree) (tree_sets tree) broken e);
}

-- the first node of a node's set has the node's own choices before it
past_of_first : (tree : Forest) → HasPerfectRecall tree → (k : ℕ) (d f : Visit) (number : ℕ) (o : Option Numbered)
    → k < length (visits tree) → is_personal (get_or (visits tree) k d).node.kind ≡ true →
    f.node.kind ≡ (get_or (visits tree) k d).node.kind → f.node.set ≡ (get_or (visits tree) k d).node.set
    → HasFirst 1 (get_or (visits tree) k d).node (visits tree) d o →
    o ≡ Some (record { number = number; visit = f }) → past f ≡ past (get_or (visits tree) k d)
past_of_first tree recall k d f number None there personal kinds sets found e = cc
past_of_first tree recall k d f number (Some first) there personal kinds sets found e =
    let all : List Visit = visits tree in
    let v : Visit = get_or all k d in
    let is_first : first.visit ≡ f = cc in
    let f_is : f ≡ get_or all found.0 d = sym is_first ∙ found.1.visit in
    let early : found.0 ≤ k = not_behind all v.node d first found k (is_same_set_by v.node v.node refl refl) in
    elim (cases_lt found.0 k) [
      | inl before ↦
          let kinds_f : (get_or all found.0 d).node.kind ≡ v.node.kind = ap (λ x. x.node.kind) (sym f_is) ∙ kinds in
          let sets_f : (get_or all found.0 d).node.set ≡ v.node.set = ap (λ x. x.node.set) (sym f_is) ∙ sets in
          ap past f_is ∙ recall found.0 k d before there (ap is_personal kinds_f ∙ personal) kinds_f sets_f
      | inr not_before ↦
          let same : found.0 ≡ k = omega arith in
          ap past f_is ∙ ap (λ n. past (get_or all n d)) same
    ]

-- with perfect recall the sequence before a set is that of each of its nodes, which all have its actions
pub sets_have_their_nodes : SetsHaveTheirNodes
sets_have_their_nodes tree game recall kind personal none k d there is =
    let all : List Visit = visits tree in
    let v : Visit = get_or all k d in
    let inner : is_leaf_kind kind ≡ false = inner_by kind personal in
    let firsts : List Visit = set_firsts kind 0 all in
    let place : ℕ = v.node.set - 1 in
    let held = (sizes_known tree kind game inner).each v.node (Contains-map all v (Contains-get_or all k d there)) is in
    let counts : 1 ≤ v.node.set = held.0 in
    let known : v.node.set ≤ length (set_sizes kind tree) = held.1 in
    let nodes : length (set_sizes kind tree) ≡ set_count kind (prefix tree) = (sizes_known tree kind game inner).count
    ∙ ap (set_count kind) (map-visits_from (λ _. []) 1 tree) in
    let first = firsts_are_first tree game kind inner place d (omega arith) in
    let f : Visit = get_or firsts place d in
    let here : place < length firsts = omega (arith, length-map firsts (λ w. w.node.children)) in
    let number : place + 1 ≡ v.node.set = omega arith in
    let kinds : f.node.kind ≡ v.node.kind = first.kinds ∙ sym is in
    let sets : f.node.set ≡ v.node.set = first.sets ∙ number in
    let pasts : past f ≡ past v =
    past_of_first tree recall k d f first.first.0 (first_of_set 1 v.node all) there (ap is_personal is ∙ personal) kinds sets (first_found 1 v.node all d)
    (sym (first_of_set_same 1 f.node v.node all kinds sets) ∙ first.first.1) in
    let own : own_choices kind f.path ≡ own_choices kind v.path = ap (λ h. own_choices h f.path) (sym first.kinds) ∙ pasts
    ∙ ap (λ h. own_choices h v.path) is in
    let size : f.node.children ≡ v.node.children = sym (get_or-map (λ w. w.node.children) firsts place d 0 here) ∙ held.2 in
    get_or-map (set_of_visit kind tree) firsts place d none here ∙ (λ i. record { before = sequence_number (set_sizes kind tree) (own i); actions = size i })
