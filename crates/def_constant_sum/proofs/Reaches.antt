-- Reach times both players' numbers along the paths of a game: at each node these are the children's added up.
use Rattle.std.proofs.Common.{◌≡◌, ℕ, ◌+◌, ◌-◌, ◌*◌, ◌<◌, ◌≤◌, true, false, cond, List, [], ◌∷◌, length, get_or, slice_index, take, map, refl, ap, sym, subst}
use Rattle.std.proofs.Common.{◌∙◌, arith}
use Rattle.std.specs.Prelude.{ℤ, pos, ◌+ℤ◌, ◌*ℤ◌, All}
use Rattle.std.specs.List.{range_with_len}
use Prim.Native.Nat.{◌∣◌}
use Rattle.std.proofs.lemmas.Int.{ints}
use Rattle.std.proofs.lemmas.List.{get_or-map, length-map}
use Rattle.std.proofs.lemmas.List.Elements.{All-map, Contains-get_or}
use Rattle.std.proofs.Math.Nat.{one-dvd}
use Rattle.def_sums.specs.Sum.{sum_over, nat_sum_over}
use Rattle.def_sums.proofs.RingLaws.{*ℤ_assoc, *ℤ_comm, +ℤ-zero, zero-*ℤ}
use Rattle.def_sums.proofs.Ranges.{range-All}
use Rattle.def_sums.proofs.SumLaws.{sum_over-ext, sum_over-factor, sum_over-filter, sum_over-pos}
use Rattle.def_tree.specs.declared.Kind.{Kind}
use Rattle.def_tree.specs.declared.Kind.TheVariants.{Chance, One, Two, Leaf}
use Rattle.def_tree.specs.declared.Node.{Node}
use Rattle.def_tree.specs.Tree.{Forest, is_leaf_kind, prefix}
use Rattle.def_tree.specs.Rules.{FitsAs, is_same_kind}
use Rattle.def_tree.proofs.Sets.{is_same_kind_self}
use Rattle.def_fraction.specs.Fraction.{Fraction, IsInLowestTerms, product_of, zero_fraction}
use Rattle.def_game_paths.specs.Paths.{Choice, Move, Visit, is_leaf, leaf_visits, own_choices, visits}
use Rattle.def_game_paths.specs.Recall.{is_personal}
use Rattle.def_game_paths.specs.Sequences.{first_sequence, sequence_at, sequence_number, set_sizes}
use Rattle.def_game_paths.proofs.Visits.{map-visits_from}
use Rattle.def_game_paths.proofs.Order.{visited_node}
use Rattle.def_game_paths.proofs.Ancestors.{Contains-map, inner_by, sizes_known}
use Rattle.def_game_scale.specs.Tables.{Tables, certain, probabilities, probability, reach}
use Rattle.def_game_scale.specs.Scale.{unit_of, weight_of}
use Rattle.def_game_scale.specs.First.{sum_from}
use Rattle.def_game_scale.proofs.Units.{den-divides, unit-positive, whole-weight}
use Rattle.def_plan.specs.Form.{InformationSet, PlacedSet, placed, sequences_of}
use Rattle.def_plan.specs.Plan.{IsPlan}
use Rattle.def_plan.proofs.Places.{at-placed}
use Rattle.def_plan.proofs.BadSets.{length-placed}
use Rattle.def_sequence_form.specs.Form.{information_sets}
use Rattle.def_sequence_form.proofs.Nodes.{sets_have_their_nodes}
use Rattle.def_sequence_form.proofs.Sets.{form_numbers_as_the_tree}
use Rattle.def_constant_sum.specs.Expected.{HasChances, IsCompleteGame}
use Rattle.def_constant_sum.proofs.Times.{IsTimes, product-times, same-without, swap-last}
use Rattle.def_constant_sum.proofs.Splits.{Splits, forest_sum, onward}
use Rattle.def_constant_sum.proofs.Shares.{sum_over-shifted, times-sum_from}
use Rattle.def_constant_sum.proofs.Lowest.{probabilities-some, reach-lowest}

module _ (tables : Tables) (tree : Forest) (game : IsCompleteGame tables tree) where
  -- a plan's number of the player's sequence on a path
  abbrev pub number_on : Kind → List ℕ → List Move → ℕ
  number_on kind plan path = slice_index plan (sequence_number (set_sizes kind tree) (own_choices kind path))

  number_own : (kind : Kind) (plan : List ℕ) (v : Visit) (action : ℕ) → v.node.kind ≡ kind
      → number_on kind plan (onward v action) ≡ slice_index plan (first_sequence (set_sizes kind tree) v.node.set + (action - 1))
  number_own kind plan v action is =
      let choice : Choice = record { set = v.node.set; action = action } in
      ap (λ b. slice_index plan (sequence_number (set_sizes kind tree) (cond b (choice ∷ own_choices kind v.path) (own_choices kind v.path))))
      (is_same_kind_self kind v.node.kind is)

  number_other : (kind : Kind) (plan : List ℕ) (v : Visit) (action : ℕ) → is_same_kind kind v.node.kind ≡ false
      → number_on kind plan (onward v action) ≡ number_on kind plan v.path
  number_other kind plan v action other =
      let choice : Choice = record { set = v.node.set; action = action } in
      ap (λ b. slice_index plan (sequence_number (set_sizes kind tree) (cond b (choice ∷ own_choices kind v.path) (own_choices kind v.path)))) other

  reach_chance : (v : Visit) (action : ℕ) → v.node.kind ≡ Chance
      → reach tables (onward v action) ≡ product_of (reach tables v.path) (probability tables v.node.set action)
  reach_chance v action is = ap (λ b. cond b (product_of (reach tables v.path) (probability tables v.node.set action)) (reach tables v.path))
      (is_same_kind_self Chance v.node.kind is)

  reach_other : (v : Visit) (action : ℕ) → is_same_kind Chance v.node.kind ≡ false
      → reach tables (onward v action) ≡ reach tables v.path
  reach_other v action other = ap (λ b. cond b (product_of (reach tables v.path) (probability tables v.node.set action)) (reach tables v.path)) other

  -- the actions' numbers at a player's node add up to the number there
  dealt_on : (kind : Kind) (root : ℕ) (plan : List ℕ) (k : ℕ) (d : Visit) → is_personal kind ≡ true
      → IsPlan (information_sets kind tree) root plan → k < length (visits tree) → (get_or (visits tree) k d).node.kind ≡ kind →
      let v = get_or (visits tree) k d in
      sum_over (λ a. pos (slice_index plan (first_sequence (set_sizes kind tree) v.node.set + (a - 1)))) (range_with_len 1 v.node.children)
      ≡ pos (number_on kind plan v.path)
  dealt_on kind root plan k d personal p there is =
      let v : Visit = get_or (visits tree) k d in
      let sets : List InformationSet = information_sets kind tree in
      let sizes : List ℕ = set_sizes kind tree in
      let none : InformationSet = record { before = 0; actions = 0 } in
      let nowhere : PlacedSet = record { first = 0; before = 0; actions = 0 } in
      let inner : is_leaf_kind kind ≡ false = inner_by kind personal in
      let held = (sizes_known tree kind game.game_tree inner).each v.node (Contains-map (visits tree) v (Contains-get_or (visits tree) k d there)) is in
      let counts : 1 ≤ v.node.set = held.0 in
      let known : v.node.set ≤ length sizes = held.1 in
      let as_tree = form_numbers_as_the_tree tree game.game_tree kind inner in
      let many : length sets ≡ length sizes = length-map _ _ ∙ sym (length-map _ _) in
      let place : ℕ = v.node.set - 1 in
      let low : place < length sets = omega arith in
      let h : PlacedSet = get_or (placed sets) place nowhere in
      let first : h.first ≡ first_sequence sizes v.node.set =
      ap (λ (g : PlacedSet). g.first) (as_tree.places place nowhere low) ∙ ap (first_sequence sizes) (omega arith) in
      let set : get_or sets place none ≡ record { before = sequence_at kind tree v; actions = v.node.children } = sets_have_their_nodes tree game.game_tree
      game.recall kind personal none k d there is in
      let actions : h.actions ≡ v.node.children = ap (λ (g : PlacedSet). g.actions) (at-placed 1 sets place nowhere none low)
      ∙ ap (λ (g : InformationSet). g.actions) set in
      let before : h.before ≡ sequence_at kind tree v = ap (λ (g : PlacedSet). g.before) (at-placed 1 sets place nowhere none low)
      ∙ ap (λ (g : InformationSet). g.before) set in
      let adds : nat_sum_over (λ s. slice_index plan s) (sequences_of h) ≡ slice_index plan h.before = p.each_set place nowhere
      (omega (arith, length-placed 1 sets)) in
      let f : ℕ → ℤ = λ s. pos (slice_index plan s) in
      let none_more : first_sequence sizes v.node.set + 0 ≡ h.first = omega (arith, first) in
      sum_over-shifted f (first_sequence sizes v.node.set) 0 v.node.children
      ∙ ap (λ n. sum_over f (range_with_len n v.node.children)) none_more
      ∙ ap (λ n. sum_over f (range_with_len h.first n)) (sym actions)
      ∙ sum_over-pos (λ s. slice_index plan s) (sequences_of h)
      ∙ ap pos (adds ∙ ap (slice_index plan) before)

  -- a number that makes each reach whole
  abbrev pub common : ℕ
  common = unit_of (map (λ v. reach tables v.path) (visits tree))

  abbrev pub IsWhole : List Move → Type 0
  IsWhole path = (reach tables path).den ∣ common

  reaches_lowest : All IsInLowestTerms (map (λ v. reach tables v.path) (visits tree))
  reaches_lowest = All-map IsInLowestTerms (λ (v : Visit). reach tables v.path) (visits tree)
      (λ k d there. reach-lowest tables game.fractions (get_or (visits tree) k d).path)

  pub common_some : 1 ≤ common
  common_some = unit-positive (map (λ v. reach tables v.path) (visits tree)) reaches_lowest

  pub whole_everywhere : All (λ v. IsWhole v.path) (visits tree)
  whole_everywhere k d there =
      let at : Visit → Fraction = λ v. reach tables v.path in
      let divides = den-divides (map at (visits tree)) reaches_lowest k (at d) (omega (arith, length-map (visits tree) at)) in
      rw (get_or-map at (visits tree) k d (at d) there) at divides

  -- chance's share of a path, in whole numbers
  abbrev pub share : List Move → ℤ
  share path = weight_of common (reach tables path)

  -- chance's shares at the children of its node add up to the node's
  shared : (v : Visit) → HasChances tables v → v.node.kind ≡ Chance → IsWhole v.path
      → All (λ a. IsWhole (onward v a)) (range_with_len 1 v.node.children)
      → sum_over (λ a. share (onward v a)) (range_with_len 1 v.node.children) ≡ share v.path
  shared v chances is whole each =
      let fs : List Fraction = probabilities tables v.node.set in
      let total : ℤ = sum_over (λ a. share (onward v a)) (range_with_len 1 (length fs)) in
      let here : IsTimes (pos common) (reach tables v.path) (share v.path) = whole-weight common (reach tables v.path) whole in
      let children : All (λ a. IsWhole (onward v a)) (range_with_len 1 (length fs)) = rw (sym chances.count) at each in
      let step : (i : ℕ) → i < length fs → IsTimes (share v.path) (get_or fs i zero_fraction) (share (onward v (1 + i))) =
      λ i low.
      let before : 1 + i - 1 ≡ i = omega arith in
      let child : IsTimes (pos common) (reach tables (onward v (1 + i))) (share (onward v (1 + i))) =
      whole-weight common (reach tables (onward v (1 + i))) (range-All (λ a. IsWhole (onward v a)) 1 (length fs) children (1 + i) (omega arith)
      (omega arith)) in
      let reached : reach tables (onward v (1 + i)) ≡ product_of (reach tables v.path) (get_or fs i zero_fraction) =
      reach_chance v (1 + i) is ∙ ap (λ n. product_of (reach tables v.path) (get_or fs n zero_fraction)) before in
      product-times (pos common) (reach tables v.path) (get_or fs i zero_fraction) (share v.path) (share (onward v (1 + i)))
      (reach-lowest tables game.fractions v.path).positive
      (probabilities-some tables game.fractions v.node.set i zero_fraction low) here
      (subst (λ (f : Fraction). IsTimes (pos common) f (share (onward v (1 + i)))) reached child) in
      let all : IsTimes (share v.path) (sum_from zero_fraction fs) (pos 0 +ℤ total) =
      times-sum_from (share v.path) zero_fraction fs zero_fraction (pos 0) (λ a. share (onward v a)) 1 (omega arith)
      (probabilities-some tables game.fractions v.node.set)
      (zero-*ℤ (pos 1) ∙ sym (zero-*ℤ (share v.path))) step in
      let one : (pos 0 +ℤ total) *ℤ pos 1 ≡ pos 1 *ℤ share v.path = subst (λ (f : Fraction). IsTimes (share v.path) f (pos 0 +ℤ total)) chances.total all in
      ap (λ n. sum_over (λ a. share (onward v a)) (range_with_len 1 n)) (sym chances.count)
      ∙ omega (arith, ints, one)

  -- a leaf has no children
  leaf_childless : (k : ℕ) (d : Visit) → k < length (visits tree) → is_leaf (get_or (visits tree) k d) ≡ true
      → (get_or (visits tree) k d).node.children ≡ 0
  leaf_childless k d there leaf =
      let v : Visit = get_or (visits tree) k d in
      let nodes : map visited_node (visits tree) ≡ prefix tree = map-visits_from (λ _. []) 1 tree in
      let many : length (prefix tree) ≡ length (visits tree) = sym (ap length nodes) ∙ length-map (visits tree) visited_node in
      let is : get_or (prefix tree) k d.node ≡ v.node = ap (λ ns. get_or ns k d.node) (sym nodes) ∙ get_or-map visited_node (visits tree) k d d.node there in
      let fits : FitsAs (get_or (prefix tree) k d.node).kind (take k (prefix tree)) (get_or (prefix tree) k d.node) = game.game_tree.rules k d.node
      (omega arith) in
      bare_leaf (take k (prefix tree)) v.node v.node.kind leaf (subst (λ (n : Node). FitsAs n.kind (take k (prefix tree)) n) is fits)
    where
      bare_leaf : (before : List Node) (node : Node) (kind : Kind) → is_leaf_kind kind ≡ true → FitsAs kind before node → node.children ≡ 0
      bare_leaf before node Chance leaf fits = cc
      bare_leaf before node One leaf fits = cc
      bare_leaf before node Two leaf fits = cc
      bare_leaf before node Leaf leaf fits = fits.children

  module _ (root_one root_two : ℕ) (x y : List ℕ) (p : IsPlan (information_sets One tree) root_one x)
      (q : IsPlan (information_sets Two tree) root_two y) where
    -- chance's share of a path times both plans' numbers there
    abbrev pub dealt_to : List Move → ℤ
    dealt_to path = share path *ℤ pos (number_on One x path * number_on Two y path)

    by_chance : (v : Visit) → HasChances tables v → v.node.kind ≡ Chance → IsWhole v.path
        → All (λ a. IsWhole (onward v a)) (range_with_len 1 v.node.children)
        → sum_over (λ a. dealt_to (onward v a)) (range_with_len 1 v.node.children) ≡ dealt_to v.path
    by_chance v chances is whole each =
        let numbers : ℤ = pos (number_on One x v.path * number_on Two y v.path) in
        let actions : List ℕ = range_with_len 1 v.node.children in
        sum_over-ext (λ a. dealt_to (onward v a)) (λ a. numbers *ℤ share (onward v a)) actions
        (λ a. ap (λ n. share (onward v a) *ℤ pos (n * number_on Two y (onward v a))) (number_other One x v a (ap (is_same_kind One) is))
        ∙ ap (λ n. share (onward v a) *ℤ pos (number_on One x v.path * n)) (number_other Two y v a (ap (is_same_kind Two) is))
        ∙ *ℤ_comm (share (onward v a)) numbers)
        ∙ sum_over-factor numbers (λ a. share (onward v a)) actions
        ∙ ap (λ z. numbers *ℤ z) (shared v chances is whole each)
        ∙ *ℤ_comm numbers (share v.path)

    by_one : (k : ℕ) (d : Visit) → k < length (visits tree) → (get_or (visits tree) k d).node.kind ≡ One
        → let v = get_or (visits tree) k d in
        sum_over (λ a. dealt_to (onward v a)) (range_with_len 1 v.node.children) ≡ dealt_to v.path
    by_one k d there is =
        let v : Visit = get_or (visits tree) k d in
        let actions : List ℕ = range_with_len 1 v.node.children in
        let other : ℤ = share v.path *ℤ pos (number_on Two y v.path) in
        let own : ℕ → ℕ = λ a. slice_index x (first_sequence (set_sizes One tree) v.node.set + (a - 1)) in
        let part : (n : ℕ) → share v.path *ℤ pos (n * number_on Two y v.path) ≡ other *ℤ pos n =
        λ n. sym (*ℤ_assoc (share v.path) (pos n) (pos (number_on Two y v.path))) ∙ swap-last (share v.path) (pos n) (pos (number_on Two y v.path)) in
        sum_over-ext (λ a. dealt_to (onward v a)) (λ a. other *ℤ pos (own a)) actions
        (λ a. ap (λ f. weight_of common f *ℤ pos (number_on One x (onward v a) * number_on Two y (onward v a))) (reach_other v a (ap (is_same_kind Chance) is))
        ∙ ap (λ n. share v.path *ℤ pos (n * number_on Two y (onward v a))) (number_own One x v a is)
        ∙ ap (λ n. share v.path *ℤ pos (own a * n)) (number_other Two y v a (ap (is_same_kind Two) is))
        ∙ part (own a))
        ∙ sum_over-factor other (λ a. pos (own a)) actions
        ∙ ap (λ z. other *ℤ z) (dealt_on One root_one x k d refl p there is)
        ∙ sym (part (number_on One x v.path))

    by_two : (k : ℕ) (d : Visit) → k < length (visits tree) → (get_or (visits tree) k d).node.kind ≡ Two
        → let v = get_or (visits tree) k d in
        sum_over (λ a. dealt_to (onward v a)) (range_with_len 1 v.node.children) ≡ dealt_to v.path
    by_two k d there is =
        let v : Visit = get_or (visits tree) k d in
        let actions : List ℕ = range_with_len 1 v.node.children in
        let other : ℤ = share v.path *ℤ pos (number_on One x v.path) in
        let own : ℕ → ℕ = λ a. slice_index y (first_sequence (set_sizes Two tree) v.node.set + (a - 1)) in
        let part : (n : ℕ) → share v.path *ℤ pos (number_on One x v.path * n) ≡ other *ℤ pos n =
        λ n. sym (*ℤ_assoc (share v.path) (pos (number_on One x v.path)) (pos n)) in
        sum_over-ext (λ a. dealt_to (onward v a)) (λ a. other *ℤ pos (own a)) actions
        (λ a. ap (λ f. weight_of common f *ℤ pos (number_on One x (onward v a) * number_on Two y (onward v a))) (reach_other v a (ap (is_same_kind Chance) is))
        ∙ ap (λ n. share v.path *ℤ pos (n * number_on Two y (onward v a))) (number_other One x v a (ap (is_same_kind One) is))
        ∙ ap (λ n. share v.path *ℤ pos (number_on One x v.path * n)) (number_own Two y v a is)
        ∙ part (own a))
        ∙ sum_over-factor other (λ a. pos (own a)) actions
        ∙ ap (λ z. other *ℤ z) (dealt_on Two root_two y k d refl q there is)
        ∙ sym (part (number_on Two y v.path))

    splits : All (Splits dealt_to IsWhole) (visits tree)
    splits k d there = record {
      leaf = leaf_childless k d there;
      inner = λ inner whole each. by_kind (get_or (visits tree) k d).node.kind refl inner whole each;
    }
      where
        by_kind : (kind : Kind) → (get_or (visits tree) k d).node.kind ≡ kind → is_leaf_kind kind ≡ false
            → IsWhole (get_or (visits tree) k d).path
            → All (λ a. IsWhole (onward (get_or (visits tree) k d) a)) (range_with_len 1 (get_or (visits tree) k d).node.children)
            → sum_over (λ a. dealt_to (onward (get_or (visits tree) k d) a)) (range_with_len 1 (get_or (visits tree) k d).node.children)
            ≡ dealt_to (get_or (visits tree) k d).path
        by_kind Chance is inner whole each = by_chance (get_or (visits tree) k d) (game.chances k d there is) is whole each
        by_kind One is inner whole each = by_one k d there is
        by_kind Two is inner whole each = by_two k d there is
        by_kind Leaf is inner whole each = cc

    -- over all leaves that makes the roots times what all of chance is
    pub dealt_in_all : sum_over (λ v. dealt_to v.path) (leaf_visits tree) ≡ pos common *ℤ pos (root_one * root_two)
    dealt_in_all =
        let whole : share [] ≡ pos common = same-without 1 (share []) (pos common) (omega arith)
        (whole-weight common certain (one-dvd common) ∙ *ℤ_comm (pos 1) (pos common)) in
        sum_over-filter (λ (v : Visit). dealt_to v.path) is_leaf (visits tree)
        ∙ forest_sum dealt_to IsWhole (λ _. []) 1 tree game.game_tree.tree.children whole_everywhere splits
        ∙ ap (λ n. sum_over (λ a. dealt_to []) (range_with_len 1 n)) game.game_tree.tree.one
        ∙ +ℤ-zero (dealt_to [])
        ∙ ap (λ z. z *ℤ pos (slice_index x 0 * slice_index y 0)) whole
        ∙ ap (λ n. pos common *ℤ pos (n * slice_index y 0)) p.root_weight
        ∙ ap (λ n. pos common *ℤ pos (root_one * n)) q.root_weight
