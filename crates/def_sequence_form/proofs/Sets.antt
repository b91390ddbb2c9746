-- The sets of a tree, as the sequence form has them: where they are placed, and how many there are.
use Rattle.std.proofs.Common.{◌≡◌, ℕ, zero, suc, ◌+◌, ◌-◌, ◌<◌, ◌≤◌, List, [], ◌∷◌, length, get_or, take, map, refl, ap, sym, subst, ◌∙◌, arith}
use Rattle.std.specs.Prelude.{sum}
use Rattle.std.proofs.lemmas.List.{get_or-map, length-map}
use Rattle.std.proofs.lemmas.List.Elements.{All-map}
use Rattle.std.proofs.lemmas.List.Sums.{sum_by-cons}
use Rattle.def_tree.specs.declared.Kind.{Kind}
use Rattle.def_tree.specs.declared.Kind.TheVariants.{Leaf}
use Rattle.def_tree.specs.Tree.{Forest}
use Rattle.def_game_paths.specs.Paths.{Visit, visits}
use Rattle.def_game_paths.specs.Sequences.{set_firsts, set_sizes, first_sequence, sequence_at, sequences_before}
use Rattle.def_game_paths.proofs.Order.{sets_in_order}
use Rattle.def_game_paths.proofs.Counts.{firsts_have, sequences_are_few}
use Rattle.def_sums.specs.Sum.{nat_sum_over}
use Rattle.def_plan.specs.Form.{InformationSet, PlacedSet, placed_from, placed, sequence_count}
use Rattle.def_plan.proofs.BadSets.{length-placed}
use Rattle.def_sequence_form.specs.Form.{information_sets}
use Rattle.def_sequence_form.specs.Laws.{FormIsInOrder, FormNumbersAsTheTree}

abbrev set_actions : InformationSet → ℕ
set_actions h = h.actions

-- where a set is placed
placed-at : (first : ℕ) (sets : List InformationSet) (k : ℕ) (d : PlacedSet) (e : InformationSet) → k < length sets →
    get_or (placed_from first sets) k d ≡ record {
      first = first + nat_sum_over set_actions (take k sets);
      before = (get_or sets k e).before;
      actions = (get_or sets k e).actions;
    }
placed-at first [] k d e there = absurd (omega arith)
placed-at first (h ∷ hs) zero d e there = let same : first ≡ first + 0 = omega arith in ap (λ n. record { first = n; before = h.before; actions = h.actions })
    same
placed-at first (h ∷ hs) (suc k) d e there =
    let far : first + h.actions + nat_sum_over set_actions (take k hs) ≡ first + (h.actions + nat_sum_over set_actions (take k hs)) = omega arith in
    placed-at (first + h.actions) hs k d e (omega arith) ∙ ap (λ n. record { first = n; before = (get_or hs k e).before; actions = (get_or hs k e).actions })
    far

module _ (kind : Kind) (tree : Forest) where
  abbrev pub set_of_visit : Visit → InformationSet
  set_of_visit v = record { before = sequence_at kind tree v; actions = v.node.children }

  abbrev firsts : List Visit
  firsts = set_firsts kind 0 (visits tree)

  sizes_agree : (k : ℕ) (vs : List Visit)
      → nat_sum_over set_actions (take k (map set_of_visit vs)) ≡ sum (take k (map (λ v. v.node.children) vs))
  sizes_agree zero vs = refl
  sizes_agree (suc k) [] = refl
  sizes_agree (suc k) (v ∷ vs) = ap (λ n. v.node.children + n) (sizes_agree k vs)
      ∙ sym (sum_by-cons (λ n. n) v.node.children (take k (map (λ w. w.node.children) vs)))

  sizes_total : (vs : List Visit) → nat_sum_over set_actions (map set_of_visit vs) ≡ sum (map (λ v. v.node.children) vs)
  sizes_total [] = refl
  sizes_total (v ∷ vs) = ap (λ n. v.node.children + n) (sizes_total vs) ∙ sym (sum_by-cons (λ n. n) v.node.children (map (λ w. w.node.children) vs))

  -- the form has as many sequences of a kind as the sizes of its sets in the tree add up to, and one more
  pub counts_agree : sequence_count (information_sets kind tree) ≡ 1 + sum (set_sizes kind tree)
  counts_agree = ap (λ n. 1 + n) (sizes_total firsts)

  places_agree : (i : ℕ) (d : PlacedSet) → i < length (information_sets kind tree)
      → get_or (placed (information_sets kind tree)) i d
      ≡ record {
        first = first_sequence (set_sizes kind tree) (i + 1);
        before = get_or (sequences_before kind tree) i 0;
        actions = get_or (set_sizes kind tree) i 0;
      }
  places_agree i d there =
      let none : Visit = record { path = []; node = record { kind = Leaf; set = 0; outcome = 0; children = 0 } } in
      let sets : List InformationSet = information_sets kind tree in
      let here : i < length firsts = omega (arith, length-map firsts set_of_visit) in
      let v : Visit = get_or firsts i none in
      let is : get_or sets i (set_of_visit none) ≡ set_of_visit v = get_or-map set_of_visit firsts i none (set_of_visit none) here in
      let index : i ≡ i + 1 - 1 = omega arith in
      let first : 1 + nat_sum_over set_actions (take i sets) ≡ first_sequence (set_sizes kind tree) (i + 1) =
      ap (λ n. 1 + n) (sizes_agree i firsts) ∙ ap (λ n. 1 + sum (take n (set_sizes kind tree))) index in
      let before : (get_or sets i (set_of_visit none)).before ≡ get_or (sequences_before kind tree) i 0 = ap (λ h. h.before) is
      ∙ sym (get_or-map (sequence_at kind tree) firsts i none 0 here) in
      let actions : (get_or sets i (set_of_visit none)).actions ≡ get_or (set_sizes kind tree) i 0 = ap (λ h. h.actions) is
      ∙ sym (get_or-map (λ w. w.node.children) firsts i none 0 here) in
      placed-at 1 sets i d (set_of_visit none) there ∙ (λ j. record { first = first j; before = before j; actions = actions j })

-- the form counts and places a tree's sequences as they are numbered in the tree
pub form_numbers_as_the_tree : FormNumbersAsTheTree
form_numbers_as_the_tree tree game kind inner =
    let few = sequences_are_few tree game kind inner in
    let sets : length (information_sets kind tree) ≡ length (set_sizes kind tree) = length-map (firsts kind tree) (set_of_visit kind tree)
    ∙ sym (length-map (firsts kind tree) (λ v. v.node.children)) in
    record {
      count = counts_agree kind tree;
      sets = sets ∙ few.sets;
      places = places_agree kind tree;
      actions = All-map (λ set. (1 ≤ set.actions) × (set.actions ≤ 1024)) (set_of_visit kind tree) (firsts kind tree) (firsts_have tree kind game inner);
      few_sets = omega (arith, few.few_sets);
      few_sequences = omega (arith, few.few_sequences, counts_agree kind tree);
    }

-- each set has actions, and the sequence before it comes before its own
pub form_is_in_order : FormIsInOrder
form_is_in_order tree game kind inner k d there =
    let sizes : List ℕ = set_sizes kind tree in
    let few = sequences_are_few tree game kind inner in
    let sets : length (information_sets kind tree) ≡ length sizes = length-map (firsts kind tree) (set_of_visit kind tree)
    ∙ sym (length-map (firsts kind tree) (λ v. v.node.children)) in
    let befores : length (sequences_before kind tree) ≡ length sizes = length-map (firsts kind tree) (sequence_at kind tree)
    ∙ sym (length-map (firsts kind tree) (λ v. v.node.children)) in
    let here : k < length (information_sets kind tree) = omega (arith, length-placed 1 (information_sets kind tree)) in
    subst (λ (h : PlacedSet). (1 ≤ h.actions) × (h.before < h.first)) (sym (places_agree kind tree k d here))
    ((few.actions k 0 (omega arith)).0, sets_in_order tree game kind inner k (omega arith))
