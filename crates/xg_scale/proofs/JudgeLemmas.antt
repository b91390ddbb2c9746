-- What is judged by a path's numbers is what the walk over the nodes looks for.
use Rattle.std.proofs.Common.{◌≡◌, ℕ, ◌+◌, ◌-◌, ◌<◌, ◌≤◌, Bool, true, false, cond, ◌&&◌, List, [], ◌∷◌, ◌++◌, get_or, take, map, filter, refl, ap, sym, ◌∙◌}
use Rattle.std.proofs.Common.{arith, append-nil, Some, None, slice_get}
use Rattle.std.specs.Prelude.{Option, nat_le, unwrap_or}
use Rattle.std.proofs.lemmas.List.{map-append, take_all}
use Rattle.std.proofs.lemmas.List.Elements.{All-cons, All-map, filter-append}
use Rattle.def_tree.specs.declared.Node.{Node}
use Rattle.def_tree.specs.Tree.{Forest, is_leaf_kind, node_count, prefix}
use Rattle.def_tree.specs.Rules.{IsGameTree}
use Rattle.def_fraction.specs.Divisors.{lcm}
use Rattle.def_fraction.specs.Fraction.{Fraction, IsInLowestTerms, fits, most, zero_fraction}
use Rattle.def_game_paths.specs.Coming.{visit_after}
use Rattle.def_game_paths.specs.Paths.{Visit, visits}
use Rattle.def_game_paths.proofs.Coming.{IsNext, length-visits, next_node, next_visit}
use Rattle.def_game_scale.specs.Tables.{Tables, AreFractions, first_sum, game_sum, paid_together, payoff_one, payoff_two, reach}
use Rattle.def_payoffs.specs.Range.{leaf_payoffs}
use Rattle.def_game_scale.specs.Scale.{all_expected, expected, expected_at, game_unit, sum_so_far, unit_so_far}
use Rattle.def_game_scale.proofs.Running.{running}
use Rattle.def_game_scale.proofs.Units.{unit-positive}
use Rattle.def_game_scale.proofs.Expected.{expected-lowest, first-lowest}
use Rattle.def_game_scale.specs.Faults.{GameFault, NotConstantSum, Scale, is_same, leaf_fault, node_fault, number_after, passing}
use Rattle.xg_scale.specs.Leaf.{judged_leaf, judged_node, known_with, sum_from_first, unit_with, with_expected, with_payoff}
use Rattle.xg_scale.specs.Walked.{all_fit, known_sum, numbers_on_path, payoffs_at, sum_of_first}
use Rattle.xg_scale.proofs.FoundLemmas.{number_next}

-- the leaves among some nodes and one more node
pub expected_more : (tables : Tables) (before : List Visit) (v : Visit)
    → expected_at tables (before ++ v ∷ [])
    ≡ expected_at tables before ++ cond (is_leaf_kind v.node.kind) (expected tables v ∷ []) []
expected_more tables before v =
    ap (map (expected tables)) (filter-append (λ (w : Visit). is_leaf_kind w.node.kind) before (v ∷ []))
    ∙ map-append (expected tables) (filter (λ (w : Visit). is_leaf_kind w.node.kind) before) (filter (λ (w : Visit). is_leaf_kind w.node.kind) (v ∷ []))
    ∙ ap (λ xs. expected_at tables before ++ xs) (last (is_leaf_kind v.node.kind))
  where
    last : (b : Bool) → map (expected tables) (cond b (v ∷ []) []) ≡ cond b (expected tables v ∷ []) []
    last true = refl
    last false = refl

-- what the leaves among some nodes pay player one, and one more node
pub payoffs_more : (tables : Tables) (before : List Visit) (v : Visit)
    → payoffs_at tables (before ++ v ∷ [])
    ≡ payoffs_at tables before ++ cond (is_leaf_kind v.node.kind) (payoff_one tables v ∷ []) []
payoffs_more tables before v =
    ap (map (payoff_one tables)) (filter-append (λ (w : Visit). is_leaf_kind w.node.kind) before (v ∷ []))
    ∙ map-append (payoff_one tables) (filter (λ (w : Visit). is_leaf_kind w.node.kind) before) (filter (λ (w : Visit). is_leaf_kind w.node.kind) (v ∷ []))
    ∙ ap (λ xs. payoffs_at tables before ++ xs) (last (is_leaf_kind v.node.kind))
  where
    last : (b : Bool) → map (payoff_one tables) (cond b (v ∷ []) []) ≡ cond b (payoff_one tables v ∷ []) []
    last true = refl
    last false = refl

-- all payoffs are those among all nodes
pub payoffs_all : (tables : Tables) (tree : Forest) (k : ℕ) → k ≡ node_count tree
    → payoffs_at tables (take k (visits tree)) ≡ leaf_payoffs tables tree
payoffs_all tables tree k last = ap (payoffs_at tables) (take_all k (visits tree) (omega (arith, length-visits tree)))

-- all expected are those among all nodes
pub expected_all : (tables : Tables) (tree : Forest) (k : ℕ) → k ≡ node_count tree
    → expected_at tables (take k (visits tree)) ≡ all_expected tables tree
expected_all tables tree k last = ap (expected_at tables) (take_all k (visits tree) (omega (arith, length-visits tree)))

-- the unit of some leaves isn't 0
pub unit_from_one : (tables : Tables) → AreFractions tables → (before : List Visit) → 1 ≤ unit_so_far tables before
unit_from_one tables h before =
    let leaves : List Visit = filter (λ (w : Visit). is_leaf_kind w.node.kind) before in
    unit-positive (sum_so_far tables before ∷ expected_at tables before)
    (All-cons IsInLowestTerms (sum_so_far tables before) (expected_at tables before) (first-lowest tables leaves h)
    (All-map IsInLowestTerms (expected tables) leaves (λ k d there. expected-lowest tables (get_or leaves k d) h)))

-- the leaves among some nodes and one more node
leaves_more : (before : List Visit) (v : Visit) (b : Bool) → is_leaf_kind v.node.kind ≡ b
    → filter (λ (w : Visit). is_leaf_kind w.node.kind) (before ++ v ∷ [])
    ≡ filter (λ (w : Visit). is_leaf_kind w.node.kind) before ++ cond b (v ∷ []) []
leaves_more before v b is =
    filter-append (λ (w : Visit). is_leaf_kind w.node.kind) before (v ∷ [])
    ∙ ap (λ c. filter (λ (w : Visit). is_leaf_kind w.node.kind) before ++ cond c (v ∷ []) []) is

first_known : (tables : Tables) (leaves : List Visit) (v : Visit)
    → first_sum tables (leaves ++ v ∷ []) ≡ unwrap_or (sum_of_first tables leaves) (paid_together tables v)
first_known tables [] v = refl
first_known tables (w ∷ rest) v = refl

known_first : (tables : Tables) (leaves : List Visit) (v : Visit)
    → sum_of_first tables (leaves ++ v ∷ []) ≡ Some (unwrap_or (sum_of_first tables leaves) (paid_together tables v))
known_first tables [] v = refl
known_first tables (w ∷ rest) v = refl

known_or_nothing : (tables : Tables) (leaves : List Visit)
    → unwrap_or (sum_of_first tables leaves) zero_fraction ≡ first_sum tables leaves
known_or_nothing tables [] = refl
known_or_nothing tables (w ∷ rest) = refl

-- behind the last node the sum is the game's
pub known_all : (tables : Tables) (tree : Forest) (k : ℕ) → k ≡ node_count tree
    → unwrap_or (known_sum tables (take k (visits tree))) zero_fraction ≡ game_sum tables tree
known_all tables tree k last =
    ap (λ vs. unwrap_or (known_sum tables vs) zero_fraction) (take_all k (visits tree) (omega (arith, length-visits tree)))
    ∙ known_or_nothing tables (filter (λ (w : Visit). is_leaf_kind w.node.kind) (visits tree))

-- and the unit is too
pub unit_all : (tables : Tables) (tree : Forest) (k : ℕ) → k ≡ node_count tree
    → unit_so_far tables (take k (visits tree)) ≡ game_unit tables tree
unit_all tables tree k last = ap (unit_so_far tables) (take_all k (visits tree) (omega (arith, length-visits tree)))

-- tests that fit together
all_passing : (a b c : Bool) (fault : GameFault) (later : Option GameFault)
    → passing a fault (passing b fault (passing c fault later)) ≡ cond (a && (b && c)) later (Some fault)
all_passing true true true fault later = refl
all_passing true true false fault later = refl
all_passing true false c fault later = refl
all_passing false b c fault later = refl

module _ (tables : Tables) (lowest : AreFractions tables) (tree : Forest) (game : IsGameTree tree) (n : ℕ)
    (there : n < node_count tree) (x : Node) (read : slice_get (prefix tree) (n + 1 - 1) ≡ Some x) where
  abbrev v : Visit
  v = visit_after tree n

  abbrev next : IsNext tree n v
  next = next_visit tree n game there

  abbrev before : List Visit
  before = take n (visits tree)

  is_node : v.node ≡ x
  is_node = next_node tree n (n + 1 - 1) x there (omega arith) read

  is_leaf : is_leaf_kind v.node.kind ≡ is_leaf_kind x.kind
  is_leaf = ap (λ (y : Node). is_leaf_kind y.kind) is_node

  number : number_after before ≡ n + 1
  number = number_next tree n there

  abbrev known : Option Fraction
  known = known_sum tables before

  abbrev unit : ℕ
  unit = unit_so_far tables before

  -- the sum up to a leaf
  sum_at : is_leaf_kind v.node.kind ≡ true
      → sum_so_far tables (before ++ v ∷ []) ≡ sum_from_first known (numbers_on_path tables v)
  sum_at leaf = ap (first_sum tables) (leaves_more before v true leaf) ∙ first_known tables (filter (λ (w : Visit). is_leaf_kind w.node.kind) before) v

  -- the unit up to a leaf
  unit_at : is_leaf_kind v.node.kind ≡ true → unit_so_far tables (before ++ v ∷ [])
      ≡ lcm (expected tables v).den (lcm (sum_from_first known (numbers_on_path tables v)).den unit)
  unit_at leaf =
      ((running tables lowest).grow 0 before v).leaf_unit leaf ∙ ap (λ (f : Fraction). lcm (expected tables v).den (lcm f.den unit)) (sum_at leaf)

  leaf_judged : is_leaf_kind v.node.kind ≡ true
      → leaf_fault tables before v ≡ judged_leaf (n + 1) known unit (numbers_on_path tables v)
  leaf_judged leaf =
      λ i. passing (fits (paid_together tables v)) (Scale (number i))
      (passing (is_same (paid_together tables v) (sum_at leaf i)) (NotConstantSum (number i))
      (passing (fits (expected tables v)) (Scale (number i))
      (passing (nat_le (unit_at leaf i) most) (Scale (number i)) None)))

  -- what a walk looks for, by the numbers of the path
  pub node_judged : node_fault tables before v ≡ cond (all_fit (numbers_on_path tables v))
      (judged_node (n + 1) x known unit (numbers_on_path tables v)) (Some (Scale (n + 1)))
  node_judged =
      all_passing (fits (reach tables v.path)) (fits (payoff_one tables v)) (fits (payoff_two tables v)) (Scale (number_after before))
      (cond (is_leaf_kind v.node.kind) (leaf_fault tables before v) None)
      ∙ (λ i. cond (all_fit (numbers_on_path tables v)) (judged i) (Some (Scale (number i))))
    where
      judged : cond (is_leaf_kind v.node.kind)
          (leaf_fault tables before v) None ≡ judged_node (n + 1) x known unit (numbers_on_path tables v)
      judged = by (is_leaf_kind x.kind) refl
        where
          by : (b : Bool) → is_leaf_kind x.kind ≡ b
              → cond (is_leaf_kind v.node.kind) (leaf_fault tables before v) None
              ≡ cond (is_leaf_kind x.kind) (judged_leaf (n + 1) known unit (numbers_on_path tables v)) None
          by true leaf = ap (λ b. cond b (leaf_fault tables before v) None) (is_leaf ∙ leaf) ∙ leaf_judged (is_leaf ∙ leaf)
              ∙ sym (ap (λ b. cond b (judged_leaf (n + 1) known unit (numbers_on_path tables v)) None) leaf)
          by false inner = ap (λ b. cond b (leaf_fault tables before v) None) (is_leaf ∙ inner)
              ∙ sym (ap (λ b. cond b (judged_leaf (n + 1) known unit (numbers_on_path tables v)) None) inner)

  -- the sum that is known with one more node
  pub known_more : known_sum tables (take (n + 1) (visits tree)) ≡ known_with x known (numbers_on_path tables v)
  known_more = ap (known_sum tables) next.taken ∙ by (is_leaf_kind x.kind) refl
    where
      by : (b : Bool) → is_leaf_kind x.kind ≡ b
          → known_sum tables (before ++ v ∷ []) ≡ cond (is_leaf_kind x.kind) (Some (sum_from_first known (numbers_on_path tables v))) known
      by true leaf =
          ap (sum_of_first tables) (leaves_more before v true (is_leaf ∙ leaf)) ∙ known_first tables (filter (λ (w : Visit). is_leaf_kind w.node.kind) before) v
          ∙ sym (ap (λ b. cond b (Some (sum_from_first known (numbers_on_path tables v))) known) leaf)
      by false inner =
          ap (sum_of_first tables) (leaves_more before v false (is_leaf ∙ inner) ∙ append-nil (filter (λ (w : Visit). is_leaf_kind w.node.kind) before))
          ∙ sym (ap (λ b. cond b (Some (sum_from_first known (numbers_on_path tables v))) known) inner)

  -- the unit with one more node
  pub unit_more : unit_so_far tables (take (n + 1) (visits tree)) ≡ unit_with x known unit (numbers_on_path tables v)
  unit_more = ap (unit_so_far tables) next.taken ∙ by (is_leaf_kind x.kind) refl
    where
      with_leaf : ℕ
      with_leaf = lcm (expected tables v).den (lcm (sum_from_first known (numbers_on_path tables v)).den unit)

      by : (b : Bool) → is_leaf_kind x.kind ≡ b
          → unit_so_far tables (before ++ v ∷ []) ≡ cond (is_leaf_kind x.kind) with_leaf unit
      by true leaf = unit_at (is_leaf ∙ leaf) ∙ sym (ap (λ b. cond b with_leaf unit) leaf)
      by false inner = ((running tables lowest).grow 0 before v).inner_unit (is_leaf ∙ inner) ∙ sym (ap (λ b. cond b with_leaf unit) inner)

  -- what one more node is expected to pay
  pub expected_with : expected_at tables (take (n + 1) (visits tree))
      ≡ expected_at tables before ++ with_expected x (numbers_on_path tables v)
  expected_with = ap (expected_at tables) next.taken ∙ expected_more tables before v
      ∙ ap (λ b. expected_at tables before ++ cond b (expected tables v ∷ []) []) is_leaf

  -- what one more node pays player one
  pub payoffs_with : payoffs_at tables (take (n + 1) (visits tree))
      ≡ payoffs_at tables before ++ with_payoff x (numbers_on_path tables v)
  payoffs_with = ap (payoffs_at tables) next.taken ∙ payoffs_more tables before v
      ∙ ap (λ b. payoffs_at tables before ++ cond b (payoff_one tables v ∷ []) []) is_leaf
