-- The walks over the chance sets: a set is asked at its first node, and stands for each of its nodes.
use Rattle.std.proofs.Common.{◌≡◌, ℕ, zero, suc, ◌+◌, ◌-◌, ◌<◌, ◌≤◌, max, Bool, true, false, cond, ◌&&◌, not, List, [], ◌∷◌, ◌++◌, length, take, drop, map, refl, ap}
use Rattle.std.proofs.Common.{sym, subst, ◌∙◌, arith, inl, inr, ◌⊎◌, Some, None, slice_get}
use Rattle.std.specs.Prelude.{nat_lt, ◌||◌}
use Rattle.std.specs.List.{list_any}
use Rattle.std.proofs.lemmas.Bool.{and_parts, cases_lt, ltb-true, ltb-false, true≢false}
use Rattle.std.proofs.lemmas.List.{map-append}
use Rattle.std.specs.Prelude.{option_map}
use Rattle.std.proofs.lemmas.Option.{get_or_from_slice_get, slice_get-get_or, slice_get-map}
use Rattle.std.proofs.Math.Seq.{drop-cons}
use Rattle.def_tree.specs.declared.Kind.TheVariants.{Chance}
use Rattle.def_tree.specs.declared.Node.{Node}
use Rattle.def_tree.specs.Tree.{Forest, node_count, prefix}
use Rattle.def_tree.specs.Rules.{Fits, IsGameTree, is_same_kind, set_count}
use Rattle.def_tree.proofs.Sets.{is_same_kind-true, set-le-next, set_count-push_same, set_count-push_other}
use Rattle.def_fraction.specs.Fraction.{Fraction, fits, sum_of, zero_fraction}
use Rattle.def_file.specs.Content.{GameFile}
use Rattle.def_file.specs.Game.{IsWholeGame}
use Rattle.def_file.specs.declared.FileFault.{FileFault}
use Rattle.def_game_paths.specs.Paths.{Visit, visits}
use Rattle.def_game_paths.specs.Coming.{no_visit, visit_after}
use Rattle.def_game_paths.proofs.Coming.{IsNext, next_node, next_visit}
use Rattle.def_game_paths.proofs.Visits.{map-visits_from}
use Rattle.def_game_numbers.specs.Numbers.{tables_of}
use Rattle.def_game_scale.specs.Tables.{Tables, probabilities}
use Rattle.def_game_scale.specs.Faults.{ChanceNegative, ChanceSum, Scale, adding_fault, found_by, is_negative, is_one, number_after, passing}
use Rattle.def_game_scale.proofs.Walks.{passed, passing_none}
use Rattle.xg_scale.specs.declared.chance.SetTest.{SetTest}
use Rattle.xg_scale.specs.declared.chance.SetTest.TheVariants.{Signs, Sums}
use Rattle.xg_scale.specs.Chance.{PassedSets, set_fault, node_test_of}
use Rattle.xg_scale.specs.FaultOfFile.{IsFaultOf}
use Rattle.xg_scale.proofs.FoundLemmas.{found_here, found_later, found_none, number_next}
use Rattle.xg_scale.proofs.GameLemmas.{in_chance_set, tree_rules}

-- at a chance node a walk asks its set
at_chance : (test : SetTest) (tables : Tables) (before : List Visit) (v : Visit)
    → is_same_kind Chance v.node.kind ≡ true →
    node_test_of test tables before v ≡ set_fault test (number_after before) (probabilities tables v.node.set)
at_chance Signs tables before v is = ap (λ c. passing (not (c && list_any is_negative (probabilities tables v.node.set))) (ChanceNegative (number_after before))
    None) is
at_chance Sums tables before v is = ap (λ c. cond c (adding_fault (number_after before) zero_fraction (probabilities tables v.node.set)) None) is

elsewhere : (test : SetTest) (tables : Tables) (before : List Visit) (v : Visit)
    → is_same_kind Chance v.node.kind ≡ false → node_test_of test tables before v ≡ None
elsewhere Signs tables before v other = ap (λ c. passing (not (c && list_any is_negative (probabilities tables v.node.set)))
    (ChanceNegative (number_after before)) None) other
elsewhere Sums tables before v other = ap (λ c. cond c (adding_fault (number_after before) zero_fraction (probabilities tables v.node.set)) None) other

adding_none : (m n : ℕ) (running : Fraction) (ps : List Fraction) → adding_fault m running ps ≡ None
    → adding_fault n running ps ≡ None
adding_none m n running [] none = passed (is_one running) (ChanceSum n) None (passing_none (is_one running) (ChanceSum m) None none).0
adding_none m n running (p ∷ ps) none =
    let parts = passing_none (fits (sum_of running p)) (Scale m) (adding_fault m (sum_of running p) ps) none in
    passed (fits (sum_of running p)) (Scale n) (adding_fault n (sum_of running p) ps) parts.0 ∙ adding_none m n (sum_of running p) ps parts.1

-- a set without a fault has none at any of its nodes
none_at : (test : SetTest) (m n : ℕ) (ps : List Fraction) → set_fault test m ps ≡ None → set_fault test n ps ≡ None
none_at Signs m n ps none = passed (not (list_any is_negative ps)) (ChanceNegative n) None
    (passing_none (not (list_any is_negative ps)) (ChanceNegative m) None none).0
none_at Sums m n ps none = adding_none m n zero_fraction ps none

cases_false : (a b : Bool) → a && b ≡ false → a ≡ true → b ≡ false
cases_false true b e is = e
cases_false false b e is = cc

module _ (test : SetTest) (tables : Tables) (tree : Forest) (game : IsGameTree tree) (k : ℕ)
    (there : k < node_count tree) (x : Node) (read : slice_get (prefix tree) (k + 1 - 1) ≡ Some x)
    (seen : ℕ) (h : PassedSets test tables tree k seen) where
  abbrev v : Visit
  v = visit_after tree k

  abbrev next : IsNext tree k v
  next = next_visit tree k game there

  is_node : v.node ≡ x
  is_node = next_node tree k (k + 1 - 1) x there (omega arith) read

  abbrev before : List Node
  before = map (λ (w : Visit). w.node) (take k (visits tree))

  nodes_more : map (λ (w : Visit). w.node) (take (k + 1) (visits tree)) ≡ before ++ x ∷ []
  nodes_more = ap (map (λ (w : Visit). w.node)) next.taken ∙ map-append (λ (w : Visit). w.node) (take k (visits tree)) (v ∷ [])
      ∙ ap (λ y. before ++ y ∷ []) is_node

  asked : (chance : is_same_kind Chance x.kind ≡ true)
      → node_test_of test tables (take k (visits tree)) v ≡ set_fault test (k + 1) (probabilities tables x.set)
  asked chance =
      at_chance test tables (take k (visits tree)) v (ap (λ (y : Node). is_same_kind Chance y.kind) is_node ∙ chance)
      ∙ ap (λ n. set_fault test n (probabilities tables v.node.set)) (number_next tree k there)
      ∙ ap (λ (y : Node). set_fault test (k + 1) (probabilities tables y.set)) is_node

  count_more : is_same_kind Chance x.kind ≡ true
      → set_count Chance (map (λ (w : Visit). w.node) (take (k + 1) (visits tree))) ≡ max x.set seen
  count_more chance = ap (set_count Chance) nodes_more ∙ set_count-push_same Chance before x chance ∙ ap (max x.set) (sym h.seen_is)

  next_set : is_same_kind Chance x.kind ≡ true → x.set ≤ seen + 1
  next_set chance =
      let kind : x.kind ≡ Chance = is_same_kind-true Chance x.kind chance in
      let least : x.set ≤ set_count x.kind before + 1 = set-le-next before x (subst (Fits before) is_node next.fits) in
      omega (arith, subst (λ c. x.set ≤ set_count c before + 1) kind least, h.seen_is)

  -- a set that is new and has no fault is one more
  pub set_opened : is_same_kind Chance x.kind && nat_lt seen x.set ≡ true
      → set_fault test (k + 1) (probabilities tables x.set) ≡ None → PassedSets test tables tree (k + 1) x.set
  set_opened opens none =
      let parts = and_parts (is_same_kind Chance x.kind) (nat_lt seen x.set) opens in
      let new : seen < x.set = ltb-true seen x.set parts.1 in
      let least : x.set ≤ seen + 1 = next_set parts.0 in
      let more : max x.set seen ≡ x.set = omega arith in
      record {
        rest = h.rest ∙ found_later tree (node_test_of test tables) k v next (asked parts.0 ∙ none);
        seen_is = sym (count_more parts.0 ∙ more);
        sets = λ set from_one within. elim (cases_lt seen set) [
          | inl later ↦
              let same : set ≡ x.set = omega arith in
              ap (λ n. set_fault test 0 (probabilities tables n)) same ∙ none_at test (k + 1) 0 (probabilities tables x.set) none
          | inr known ↦ h.sets set from_one known
        ];
      }

  -- the fault of a set that is new is found
  pub set_broken : is_same_kind Chance x.kind && nat_lt seen x.set ≡ true → (fault : FileFault)
      → IsFaultOf (set_fault test (k + 1) (probabilities tables x.set)) fault
      → IsFaultOf (found_by (node_test_of test tables) [] (visits tree)) fault
  set_broken opens fault broken =
      let parts = and_parts (is_same_kind Chance x.kind) (nat_lt seen x.set) opens in
      subst (λ o. IsFaultOf o fault) (sym h.rest) (found_here tree (node_test_of test tables) k v next (set_fault test (k + 1) (probabilities tables x.set))
      fault (asked parts.0) broken)

  -- each other node is passed over
  pub set_passed : 1 ≤ x.set ⊎ (is_same_kind Chance x.kind ≡ false)
      → is_same_kind Chance x.kind && nat_lt seen x.set ≡ false → PassedSets test tables tree (k + 1) seen
  set_passed counts closed = by (is_same_kind Chance x.kind) refl
    where
      by : (b : Bool) → is_same_kind Chance x.kind ≡ b → PassedSets test tables tree (k + 1) seen
      by true chance =
          let old : x.set ≤ seen = ltb-false seen x.set (cases_false (is_same_kind Chance x.kind) (nat_lt seen x.set) closed chance) in
          let from_one : 1 ≤ x.set = elim counts [ inl one ↦ one | inr other ↦ absurd (true≢false (sym chance ∙ other)) ] in
          let more : max x.set seen ≡ seen = omega arith in
          record {
            rest = h.rest ∙ found_later tree (node_test_of test tables) k v next
                (asked chance ∙ none_at test 0 (k + 1) (probabilities tables x.set) (h.sets x.set from_one old));
            seen_is = sym (count_more chance ∙ more);
            sets = h.sets;
          }
      by false other =
          record {
            rest = h.rest ∙ found_later tree (node_test_of test tables) k v next
                (elsewhere test tables (take k (visits tree)) v (ap (λ (y : Node). is_same_kind Chance y.kind) is_node ∙ other));
            seen_is = h.seen_is ∙ sym (ap (set_count Chance) nodes_more ∙ set_count-push_other Chance before x other);
            sets = h.sets;
          }

-- what is read of the next node
node_read : (tree : Forest) (k : ℕ) → IsNext tree k (visit_after tree k)
    → slice_get (prefix tree) (k + 1 - 1) ≡ Some (visit_after tree k).node
node_read tree k next =
    let index : k + 1 - 1 ≡ k = omega arith in
    (λ i. slice_get (sym (map-visits_from (λ _. []) 1 tree) i) (index i))
    ∙ slice_get-map (λ (w : Visit). w.node) (visits tree) k
    ∙ ap (option_map (λ (w : Visit). w.node)) (slice_get-get_or (visits tree) k no_visit next.there)

-- where all sets pass, nothing is found at any node
module _ (test : SetTest) (game : GameFile) (whole : IsWholeGame game)
    (sets : (set : ℕ) → 1 ≤ set → set ≤ length game.sets.chance
    → set_fault test 0 (probabilities (tables_of game) set) ≡ None) where
  nothing_at : (k : ℕ) → k < node_count game.tree
      → node_test_of test (tables_of game) (take k (visits game.tree)) (visit_after game.tree k) ≡ None
  nothing_at k there = by (is_same_kind Chance (visit_after game.tree k).node.kind) refl
    where
      v : Visit
      v = visit_after game.tree k

      before : List Visit
      before = take k (visits game.tree)

      by : (b : Bool) → is_same_kind Chance v.node.kind ≡ b → node_test_of test (tables_of game) before v ≡ None
      by true chance =
          let known = in_chance_set game whole k v.node (node_read game.tree k (next_visit game.tree k (tree_rules game whole) there))
          (is_same_kind-true Chance v.node.kind chance) in
          at_chance test (tables_of game) before v chance
          ∙ none_at test 0 (number_after before) (probabilities (tables_of game) v.node.set) (sets v.node.set known.from_one known.there)
      by false other = elsewhere test (tables_of game) before v other

  nothing_after : (m k : ℕ) → k + m ≡ node_count game.tree
      → found_by (node_test_of test (tables_of game)) (take k (visits game.tree)) (drop k (visits game.tree)) ≡ None
  nothing_after zero k last = found_none game.tree (node_test_of test (tables_of game)) k (omega (arith, last))
  nothing_after (suc m) k more =
      let there : k < node_count game.tree = omega (arith, more) in
      found_later game.tree (node_test_of test (tables_of game)) k (visit_after game.tree k)
      (next_visit game.tree k (tree_rules game whole) there) (nothing_at k there)
      ∙ nothing_after m (k + 1) (omega (arith, more))

  pub sets_pass : found_by (node_test_of test (tables_of game)) [] (visits game.tree) ≡ None
  sets_pass = nothing_after (node_count game.tree) 0 (omega arith)

-- before the first node
pub sets_first : (test : SetTest) (tables : Tables) (tree : Forest) → PassedSets test tables tree 0 0
sets_first test tables tree = record { rest = refl; seen_is = refl; sets = λ set from_one within. absurd (omega arith) }

-- one fraction after the other

drop_read : (ps : List Fraction) (i : ℕ) (p : Fraction) → slice_get ps (i + 1 - 1) ≡ Some p → i < length ps
    → drop i ps ≡ p ∷ drop (i + 1) ps
drop_read ps i p read there =
    let index : i + 1 - 1 ≡ i = omega arith in
    let on : suc i ≡ i + 1 = omega arith in
    drop-cons ps i p there ∙ (λ j. get_or_from_slice_get ps i p p (ap (slice_get ps) (sym index) ∙ read) j ∷ drop (on j) ps)

-- the sign of one more is asked
pub sign_more : (ps : List Fraction) (i : ℕ) (p : Fraction) (b : Bool) → slice_get ps (i + 1 - 1) ≡ Some p
    → i < length ps → is_negative p ≡ b →
    list_any is_negative (drop i ps) ≡ b || list_any is_negative (drop (i + 1) ps)
sign_more ps i p b read there is = ap (list_any is_negative) (drop_read ps i p read there) ∙ ap (λ c. c || list_any is_negative (drop (i + 1) ps)) is

-- one more is added
pub sum_more : (n : ℕ) (running : Fraction) (ps : List Fraction) (i : ℕ) (p : Fraction)
    → slice_get ps (i + 1 - 1) ≡ Some p → i < length ps →
    adding_fault n running (drop i ps) ≡ passing (fits (sum_of running p)) (Scale n) (adding_fault n (sum_of running p) (drop (i + 1) ps))
sum_more n running ps i p read there = ap (adding_fault n running) (drop_read ps i p read there)
