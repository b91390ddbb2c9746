-- The weights of the leaves among the first nodes, and one node more.
use Rattle.std.proofs.Common.{◌≡◌, ℕ, ◌+◌, ◌-◌, ◌<◌, ◌≤◌, Bool, true, false, cond, ◌&&◌, not, List, [], ◌∷◌, ◌++◌, length, get_or, take, drop, map, filter}
use Rattle.std.proofs.Common.{refl, ap, sym, subst, ◌∙◌, arith, append-nil, length-append, take-append-drop, Some, None, slice_get}
use Rattle.std.specs.Prelude.{sum, unsigned_abs, nat_lt, unwrap_or}
use Rattle.std.proofs.lemmas.Bool.{lt-ltb, le-ltb}
use Rattle.std.proofs.lemmas.List.{length-map, map-append}
use Rattle.std.proofs.lemmas.List.Elements.{filter-append}
use Rattle.std.proofs.Math.Seq.{get_or-append_seam}
use Rattle.def_tree.specs.declared.Node.{Node}
use Rattle.def_tree.specs.Tree.{Forest, is_leaf_kind, node_count, prefix}
use Rattle.def_tree.specs.Rules.{IsGameTree}
use Rattle.def_fraction.specs.Fraction.{Fraction, most, zero_fraction}
use Rattle.def_game_paths.specs.Coming.{visit_after}
use Rattle.def_game_paths.specs.Paths.{Visit, visits}
use Rattle.def_game_paths.proofs.Coming.{IsNext, next_node, next_visit}
use Rattle.def_game_scale.specs.Tables.{Tables, AreFractions}
use Rattle.def_game_scale.specs.Scale.{all_expected, all_fractions, expected, expected_at, game_unit, mass_so_far, weight_of}
use Rattle.def_game_scale.proofs.Expected.{fractions-lowest}
use Rattle.def_game_scale.proofs.Running.{running}
use Rattle.def_game_scale.proofs.Units.{unit-positive}
use Rattle.def_game_scale.specs.Faults.{Scale, found_by, mass_fault, number_after, passing}
use Rattle.def_game_numbers.specs.Numbers.{weights_of_game}
use Rattle.xg_game.specs.declared.fault.Refused.{Refused}
use Rattle.xg_scale.specs.declared.leaf.Expected.{Expected}
use Rattle.xg_scale.specs.declared.weights.Weighed.{Weighed}
use Rattle.xg_scale.specs.FaultOfFile.{RefusesBy}
use Rattle.xg_scale.specs.Walked.{IsExpectedOf}
use Rattle.xg_scale.specs.Weighed.{HasWeighed, KeepsWeights, weights_with}
use Rattle.xg_scale.proofs.FoundLemmas.{found_later, found_none, number_next, refuses_here}
use Rattle.xg_scale.proofs.JudgeLemmas.{expected_all, expected_more}

expected-append : (tables : Tables) (before after : List Visit)
    → expected_at tables (before ++ after) ≡ expected_at tables before ++ expected_at tables after
expected-append tables before after =
    ap (map (expected tables)) (filter-append (λ (w : Visit). is_leaf_kind w.node.kind) before after)
    ∙ map-append (expected tables) (filter (λ (w : Visit). is_leaf_kind w.node.kind) before) (filter (λ (w : Visit). is_leaf_kind w.node.kind) after)

module _ (tables : Tables) (lowest : AreFractions tables) (tree : Forest) (game : IsGameTree tree) (k : ℕ)
    (there : k < node_count tree) (x : Node) (read : slice_get (prefix tree) (k + 1 - 1) ≡ Some x) where
  abbrev v : Visit
  v = visit_after tree k

  abbrev next : IsNext tree k v
  next = next_visit tree k game there

  abbrev before : List Visit
  before = take k (visits tree)

  is_node : v.node ≡ x
  is_node = next_node tree k (k + 1 - 1) x there (omega arith) read

  is_leaf : is_leaf_kind v.node.kind ≡ is_leaf_kind x.kind
  is_leaf = ap (λ (y : Node). is_leaf_kind y.kind) is_node

  all_split : is_leaf_kind x.kind ≡ true
      → all_expected tables tree
      ≡ expected_at tables before ++ (expected tables v ∷ expected_at tables (drop (k + 1) (visits tree)))
  all_split leaf =
      ap (expected_at tables) (sym (take-append-drop k (visits tree)) ∙ ap (λ vs. before ++ vs) next.cons)
      ∙ expected-append tables before (v ∷ drop (k + 1) (visits tree))
      ∙ ap (λ b. expected_at tables before ++ map (expected tables) (cond b (v ∷ filter (λ (w : Visit). is_leaf_kind w.node.kind) (drop (k + 1) (visits tree)))
      (filter (λ (w : Visit). is_leaf_kind w.node.kind) (drop (k + 1) (visits tree))))) (is_leaf ∙ leaf)

  -- what a walk over the masses looks for at a leaf
  mass_at : (unit : ℕ) (b : Bool) → is_leaf_kind x.kind ≡ true
      → nat_lt most (mass_so_far tables unit (before ++ v ∷ [])) ≡ b
      → mass_fault tables unit before v ≡ passing (not b) (Scale (k + 1)) None
  mass_at unit b leaf past =
      let leaf_is : is_leaf_kind v.node.kind ≡ true = is_leaf ∙ leaf in
      λ i. passing (not (leaf_is i && past i)) (Scale (number_next tree k there i)) None

  module _ (found : Expected) (are : IsExpectedOf tables tree found) (w : Weighed)
      (h : HasWeighed tables tree found.unit k w) where
    abbrev unit : ℕ
    unit = found.unit

    count : length w.leaves.items ≡ length (expected_at tables before)
    count = ap length h.leaves_are ∙ length-map (expected_at tables before) (weight_of unit)

    -- there is a fraction for the leaf
    pub fraction_there : is_leaf_kind x.kind ≡ true → length w.leaves.items < length found.fractions.items
    fraction_there leaf =
        omega (
          arith,
          count,
          ap length are.fractions,
          ap length (all_split leaf),
          length-append (expected_at tables before) (expected tables v ∷ expected_at tables (drop (k + 1) (visits tree))),
        )

    -- and it is what the leaf is expected to pay
    pub fraction_is : is_leaf_kind x.kind ≡ true → (f d : Fraction)
        → get_or found.fractions.items (length w.leaves.items) d ≡ f → expected tables v ≡ f
    fraction_is leaf f d at =
        sym (get_or-append_seam (expected_at tables before) (expected tables v) (expected_at tables (drop (k + 1) (visits tree))) d)
        ∙ (λ i. get_or (sym (are.fractions ∙ all_split leaf) i) (sym count i) d) ∙ at

    mass_with : is_leaf_kind x.kind ≡ true
        → mass_so_far tables unit (before ++ v ∷ []) ≡ w.mass + unsigned_abs (weight_of unit (expected tables v))
    mass_with leaf = ((running tables lowest).grow unit before v).leaf_mass (is_leaf ∙ leaf)
        ∙ ap (λ m. m + unsigned_abs (weight_of unit (expected tables v))) (sym h.mass_is)

    -- a leaf more, within the limit
    pub weighed_leaf : is_leaf_kind x.kind ≡ true → (f : Fraction) → expected tables v ≡ f
        → w.mass + unsigned_abs (weight_of unit f) ≤ most → (new : Weighed)
        → new.mass ≡ w.mass + unsigned_abs (weight_of unit f) →
        new.leaves.items ≡ w.leaves.items ++ weight_of unit f ∷ [] → HasWeighed tables tree unit (k + 1) new
    weighed_leaf leaf f pays fits new mass leaves =
        let total : mass_so_far tables unit (before ++ v ∷ []) ≡ w.mass + unsigned_abs (weight_of unit f) = mass_with leaf
        ∙ ap (λ g. w.mass + unsigned_abs (weight_of unit g)) pays in
        let within : nat_lt most (mass_so_far tables unit (before ++ v ∷ []))
        ≡ false = le-ltb most (mass_so_far tables unit (before ++ v ∷ [])) (omega (arith, total, fits)) in
        record {
          rest = h.rest ∙ found_later tree (mass_fault tables unit) k v next (mass_at unit false leaf within);
          mass_is = mass ∙ sym total ∙ ap (mass_so_far tables unit) (sym next.taken);
          limit = omega (arith, mass, fits);
          leaves_are = leaves ∙ (λ i. h.leaves_are i ++ weight_of unit (sym pays i) ∷ [])
              ∙ sym (map-append (weight_of unit) (expected_at tables before) (expected tables v ∷ []))
              ∙ ap (map (weight_of unit)) (sym (ap (expected_at tables) next.taken ∙ expected_more tables before v
              ∙ ap (λ b. expected_at tables before ++ cond b (expected tables v ∷ []) []) (is_leaf ∙ leaf)));
        }

    -- a leaf more, past it
    pub weighed_past : is_leaf_kind x.kind ≡ true → (f : Fraction) → expected tables v ≡ f
        → most < w.mass + unsigned_abs (weight_of unit f) → (refusal : Refused)
        → RefusesBy (Some (Scale (k + 1))) refusal →
        RefusesBy (found_by (mass_fault tables unit) [] (visits tree)) refusal
    weighed_past leaf f pays past refusal refuses =
        let total : mass_so_far tables unit (before ++ v ∷ []) ≡ w.mass + unsigned_abs (weight_of unit f) = mass_with leaf
        ∙ ap (λ g. w.mass + unsigned_abs (weight_of unit g)) pays in
        let beyond : nat_lt most (mass_so_far tables unit (before ++ v ∷ []))
        ≡ true = lt-ltb most (mass_so_far tables unit (before ++ v ∷ [])) (omega (arith, total, past)) in
        subst (λ o. RefusesBy o refusal) (sym h.rest) (refuses_here tree (mass_fault tables unit) k v next (Some (Scale (k + 1))) refusal
        (mass_at unit true leaf beyond) refuses)

    -- another node
    pub weighed_inner : is_leaf_kind x.kind ≡ false → HasWeighed tables tree unit (k + 1) w
    weighed_inner inner =
        let inner_is : is_leaf_kind v.node.kind ≡ false = is_leaf ∙ inner in
        record {
          rest = h.rest ∙ found_later tree (mass_fault tables unit) k v next
              (ap (λ b. passing (not (b && nat_lt most (mass_so_far tables unit (before ++ v ∷ [])))) (Scale (number_after before)) None) inner_is);
          mass_is = h.mass_is ∙ sym (ap (mass_so_far tables unit) next.taken ∙ ((running tables lowest).grow unit before v).inner_mass inner_is);
          limit = h.limit;
          leaves_are = h.leaves_are
              ∙ ap (map (weight_of unit)) (sym (ap (expected_at tables) next.taken ∙ expected_more tables before v
              ∙ ap (λ b. expected_at tables before ++ cond b (expected tables v ∷ []) []) inner_is ∙ append-nil (expected_at tables before)));
        }

-- before the first node
pub weighed_first : (tables : Tables) (tree : Forest) (unit : ℕ) (w : Weighed) → w.mass ≡ 0 → w.leaves.items ≡ []
    → HasWeighed tables tree unit 0 w
weighed_first tables tree unit w mass leaves = record { rest = refl; mass_is = mass; limit = omega (arith, mass); leaves_are = leaves }

module _ (tables : Tables) (lowest : AreFractions tables) (tree : Forest) (found : Expected)
    (are : IsExpectedOf tables tree found) (k : ℕ) (last : k ≡ node_count tree) (w : Weighed)
    (h : HasWeighed tables tree found.unit k w) (f : Fraction) (paid : f ≡ unwrap_or found.sum zero_fraction) where
  -- after the last node the masses have no fault
  pub masses_pass : found_by (mass_fault tables (game_unit tables tree)) [] (visits tree) ≡ None
  masses_pass = ap (λ unit. found_by (mass_fault tables unit) [] (visits tree)) (sym are.unit) ∙ h.rest ∙ found_none tree (mass_fault tables found.unit) k last

  leaves_all : w.leaves.items ≡ map (weight_of found.unit) (all_expected tables tree)
  leaves_all = h.leaves_are ∙ ap (map (weight_of found.unit)) (expected_all tables tree k last)

  mass_all : w.mass ≡ sum (map unsigned_abs (map (weight_of found.unit) (all_expected tables tree)))
  mass_all = h.mass_is ∙ ap (λ fs. sum (map unsigned_abs (map (weight_of found.unit) fs))) (expected_all tables tree k last)

  -- and these are the game's weights
  pub all_weighed : weights_with f found.unit w ≡ weights_of_game tables tree
  all_weighed = λ i. record {
    sum = (paid ∙ are.sum) i;
    unit = are.unit i;
    mass = (mass_all ∙ ap (λ unit. sum (map unsigned_abs (map (weight_of unit) (all_expected tables tree)))) are.unit) i;
    leaves = (leaves_all ∙ ap (λ unit. map (weight_of unit) (all_expected tables tree)) are.unit) i;
  }

  -- which are within the limits
  pub keeps_weights : KeepsWeights (weights_with f found.unit w)
  keeps_weights = record {
    positive = omega (arith, are.unit, unit-positive (all_fractions tables tree) (fractions-lowest tables tree lowest));
    limit = are.limit;
    mass_is = ap (λ ws. sum (map unsigned_abs ws)) leaves_all ∙ sym mass_all;
    mass_limit = h.limit;
  }
