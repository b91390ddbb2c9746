-- The sum, the unit and the mass, node after node.
use Rattle.std.proofs.Common.{◌≡◌, ℕ, ◌+◌, Bool, true, false, cond, List, [], ◌∷◌, ◌++◌, get_or, map, refl, ap, sym, subst, ◌∙◌, arith}
use Rattle.std.specs.Prelude.{filter, sum, unsigned_abs, All, Any, ◌||◌}
use Rattle.std.specs.List.{list_any}
use Rattle.std.proofs.lemmas.List.Folds.{list_any-from_Any}
use Prim.Native.Nat.{◌∣◌}
use Rattle.std.proofs.lemmas.List.{append-nil, map-append}
use Rattle.std.proofs.lemmas.List.Elements.{All-append, All-cons, All-head, All-map, All-nil, All-tail, All-weaker, filter-append}
use Rattle.std.proofs.lemmas.List.Sums.{sum_by-append}
use Rattle.std.proofs.lemmas.Nat.Gcd.{dvd_antisymm, dvd_refl, dvd_trans}
use Rattle.std.proofs.Math.Nat.{one-dvd}
use Rattle.def_tree.proofs.Fronts.{All-behind, All-front}
use Rattle.def_fraction.specs.Divisors.{gcd, lcm}
use Rattle.def_fraction.specs.Fraction.{Fraction, IsInLowestTerms}
use Rattle.def_fraction.proofs.DivisorLemmas.{IsLcm-lcm}
use Rattle.def_game_paths.specs.Paths.{Visit, is_leaf}
use Rattle.def_game_scale.specs.Tables.{Tables, AreFractions, first_sum, paid_together}
use Rattle.def_game_scale.specs.Scale.{expected, expected_at, sum_so_far, unit_of, unit_so_far, weight_of}
use Rattle.def_game_scale.specs.Laws.{NumbersGrowBy, RunningNumbers}
use Rattle.def_game_scale.proofs.Units.{den-divides, lcm-absorbs, unit-divides, unit-positive}
use Rattle.def_game_scale.proofs.Expected.{expected-lowest, first-lowest}

-- the unit of one fraction more is the least common multiple of its denominator and the unit
pub unit-snoc : (fs : List Fraction) (f : Fraction) → All IsInLowestTerms fs → IsInLowestTerms f
    → unit_of (fs ++ (f ∷ [])) ≡ lcm f.den (unit_of fs)
unit-snoc fs f low last =
    let all : List Fraction = fs ++ (f ∷ []) in
    let all_low : All IsInLowestTerms all = All-append IsInLowestTerms fs (f ∷ []) low (All-cons IsInLowestTerms f [] last (All-nil IsInLowestTerms)) in
    let least = IsLcm-lcm f.den (unit_of fs) last.positive (unit-positive fs low) in
    let dens : All (λ x. x.den ∣ unit_of all) all = den-divides all all_low in
    let Divides : ℕ → Fraction → Type 0 = λ m x. x.den ∣ m in
    let m : ℕ = lcm f.den (unit_of fs) in
    dvd_antisymm
    (unit-divides all m all_low (All-append (Divides m) fs (f ∷ [])
    (All-weaker (Divides (unit_of fs)) (Divides m) (λ x divides. dvd_trans x.den divides least.second_divides) fs (den-divides fs low))
    (All-cons (Divides m) f [] least.first_divides (All-nil (Divides m)))))
    (least.least (unit_of all) (All-head (Divides (unit_of all)) f [] (All-behind (Divides (unit_of all)) fs (f ∷ []) dens))
    (unit-divides fs (unit_of all) low (All-front (Divides (unit_of all)) fs (f ∷ []) dens)))

expected_at-lowest : (tables : Tables) (vs : List Visit) → AreFractions tables
    → All IsInLowestTerms (expected_at tables vs)
expected_at-lowest tables vs h = All-map IsInLowestTerms (expected tables) (filter is_leaf vs)
    (λ k d there. expected-lowest tables (get_or (filter is_leaf vs) k d) h)

-- what the nodes pay with one more, which is a leaf or not
expected-snoc : (tables : Tables) (before : List Visit) (v : Visit) (b : Bool) → is_leaf v ≡ b →
    expected_at tables (before ++ (v ∷ [])) ≡ expected_at tables before ++ cond b (expected tables v ∷ []) []
expected-snoc tables before v b e =
    ap (map (expected tables)) (filter-append is_leaf before (v ∷ [])) ∙ map-append (expected tables) (filter is_leaf before) (filter is_leaf (v ∷ []))
    ∙ ap (λ xs. expected_at tables before ++ xs) (last b e)
  where
    last : (b : Bool) → is_leaf v ≡ b
        → map (expected tables) (cond (is_leaf v) (v ∷ []) []) ≡ cond b (expected tables v ∷ []) []
    last true e = ap (λ t. map (expected tables) (cond t (v ∷ []) [])) e
    last false e = ap (λ t. map (expected tables) (cond t (v ∷ []) [])) e

mass-snoc : (unit : ℕ) (fs : List Fraction) (f : Fraction)
    → sum (map unsigned_abs (map (weight_of unit) (fs ++ (f ∷ []))))
    ≡ sum (map unsigned_abs (map (weight_of unit) fs)) + unsigned_abs (weight_of unit f)
mass-snoc unit fs f =
    ap (λ ws. sum (map unsigned_abs ws)) (map-append (weight_of unit) fs (f ∷ []))
    ∙ ap sum (map-append unsigned_abs (map (weight_of unit) fs) (weight_of unit f ∷ []))
    ∙ sum_by-append (λ x. x) (map unsigned_abs (map (weight_of unit) fs)) (unsigned_abs (weight_of unit f) ∷ [])
    ∙ ap (λ k. sum (map unsigned_abs (map (weight_of unit) fs)) + k) (from_zero (unsigned_abs (weight_of unit f)))
  where
    from_zero : (k : ℕ) → 0 + k ≡ k
    from_zero k = omega arith

-- the leaves among some nodes, and one more node, which is a leaf or not
leaves-snoc : (before : List Visit) (v : Visit) (b : Bool) → is_leaf v ≡ b
    → filter is_leaf (before ++ (v ∷ [])) ≡ filter is_leaf before ++ cond b (v ∷ []) []
leaves-snoc before v b e = filter-append is_leaf before (v ∷ []) ∙ ap (λ t. filter is_leaf before ++ cond t (v ∷ []) []) e

-- among nodes of which none is a leaf there is no leaf
no-leaves : (nodes : List Visit) → All (λ w. is_leaf w ≡ false) nodes → filter is_leaf nodes ≡ []
no-leaves [] h = refl
no-leaves (w ∷ rest) h =
    ap (λ b. cond b (w ∷ filter is_leaf rest) (filter is_leaf rest)) (All-head (λ (x : Visit). is_leaf x ≡ false) w rest h)
    ∙ no-leaves rest (All-tail (λ (x : Visit). is_leaf x ≡ false) w rest h)

-- the first leaf gives the sum
sum-at_first : (tables : Tables) (before : List Visit) (v : Visit) → All (λ w. is_leaf w ≡ false) before
    → is_leaf v ≡ true → sum_so_far tables (before ++ (v ∷ [])) ≡ paid_together tables v
sum-at_first tables before v none leaf =
    ap (first_sum tables) (leaves-snoc before v true leaf) ∙ ap (λ ls. first_sum tables (ls ++ (v ∷ []))) (no-leaves before none)

-- what comes behind a leaf leaves the sum as it is
pub sum-behind : (tables : Tables) (before after : List Visit) → Any (λ w. is_leaf w ≡ true) before
    → sum_so_far tables (before ++ after) ≡ sum_so_far tables before
sum-behind tables before after some =
    ap (first_sum tables) (filter-append is_leaf before after) ∙ by before (list_any-from_Any is_leaf before some)
  where
    by : (nodes : List Visit) → list_any is_leaf nodes ≡ true
        → first_sum tables (filter is_leaf nodes ++ filter is_leaf after) ≡ first_sum tables (filter is_leaf nodes)
    by [] some = cc
    by (w ∷ rest) some =
        elim (is_leaf w) as (λ b. is_leaf w ≡ b → first_sum tables (cond b (w ∷ filter is_leaf rest) (filter is_leaf rest) ++ filter is_leaf after)
        ≡ first_sum tables (cond b (w ∷ filter is_leaf rest) (filter is_leaf rest))) [
          | true ↦ λ leaf. refl
          | false ↦ λ inner. by rest (ap (λ b. b || list_any is_leaf rest) (sym inner) ∙ some)
        ] refl

-- and so does a node that isn't a leaf
pub inner-sum : (tables : Tables) (before : List Visit) (v : Visit) → is_leaf v ≡ false
    → sum_so_far tables (before ++ (v ∷ [])) ≡ sum_so_far tables before
inner-sum tables before v inner = ap (first_sum tables) (leaves-snoc before v false inner ∙ append-nil (filter is_leaf before))

-- one more node keeps the sum's denominator among the divisors
sum-divides_next : (tables : Tables) (before : List Visit) (v : Visit)
    → (sum_so_far tables before).den ∣ (sum_so_far tables (before ++ (v ∷ []))).den
sum-divides_next tables before v =
    let Divides : List Visit → Type 0 = λ leaves. (sum_so_far tables before).den ∣ (first_sum tables leaves).den in
    subst Divides (sym (filter-append is_leaf before (v ∷ []))) (by (filter is_leaf before))
  where
    by : (leaves : List Visit) → (first_sum tables leaves).den ∣ (first_sum tables (leaves ++ filter is_leaf (v ∷ []))).den
    by [] = one-dvd (first_sum tables (filter is_leaf (v ∷ []))).den
    by (w ∷ rest) = dvd_refl (paid_together tables w).den

-- a leaf takes the sum's denominator and its own into the unit
leaf-unit : (tables : Tables) → AreFractions tables → (before : List Visit) (v : Visit) → is_leaf v ≡ true
    → unit_so_far tables (before ++ (v ∷ []))
    ≡ lcm (expected tables v).den (lcm (sum_so_far tables (before ++ (v ∷ []))).den (unit_so_far tables before))
leaf-unit tables h before v leaf =
    let fs : List Fraction = expected_at tables before in
    let old : Fraction = sum_so_far tables before in
    let new : Fraction = sum_so_far tables (before ++ (v ∷ [])) in
    let low = expected_at-lowest tables before h in
    let old_low : IsInLowestTerms old = first-lowest tables (filter is_leaf before) h in
    let new_low : IsInLowestTerms new = first-lowest tables (filter is_leaf (before ++ (v ∷ []))) h in
    ap (λ gs. unit_of (new ∷ gs)) (expected-snoc tables before v true leaf)
    ∙ unit-snoc (new ∷ fs) (expected tables v) (All-cons IsInLowestTerms new fs new_low low) (expected-lowest tables v h)
    ∙ ap (lcm (expected tables v).den) (sym (lcm-absorbs old.den new.den (unit_of fs) old_low.positive new_low.positive (unit-positive fs low)
    (sum-divides_next tables before v)))

-- a leaf takes its denominator into the unit and its weight into the mass; other nodes change neither
pub grows : (tables : Tables) → AreFractions tables → (unit : ℕ) (before : List Visit) (v : Visit)
    → NumbersGrowBy tables unit before v
grows tables h unit before v =
    let fs : List Fraction = expected_at tables before in
    let f : Fraction = expected tables v in
    record {
      first_sum = sum-at_first tables before v;
      later_sum = sum-behind tables before (v ∷ []);
      leaf_unit = leaf-unit tables h before v;
      inner_unit = λ inner. (λ i. unit_of (inner-sum tables before v inner i ∷ (expected-snoc tables before v false inner ∙ append-nil fs) i));
      leaf_mass = λ leaf. ap (λ xs. sum (map unsigned_abs (map (weight_of unit) xs))) (expected-snoc tables before v true leaf) ∙ mass-snoc unit fs f;
      inner_mass = λ inner. ap (λ xs. sum (map unsigned_abs (map (weight_of unit) xs))) (expected-snoc tables before v false inner ∙ append-nil fs);
    }

first-unit : (tables : Tables) → unit_so_far tables [] ≡ 1
unfolding gcd
first-unit tables = refl

-- the sum, the unit and the mass go node after node from 0, from 1 and from 0 to those of the game
pub running : (tables : Tables) → AreFractions tables → RunningNumbers tables
running tables h = record {
  start_sum = refl;
  start_unit = first-unit tables;
  start_mass = λ unit. refl;
  grow = grows tables h;
  divides = λ nodes. sum-in_unit nodes;
  end_sum = λ tree. refl;
  end_unit = λ tree. refl;
  end_mass = λ tree. refl;
}
  where
    sum-in_unit : (nodes : List Visit) → (sum_so_far tables nodes).den ∣ unit_so_far tables nodes
    sum-in_unit nodes =
        let all : List Fraction = sum_so_far tables nodes ∷ expected_at tables nodes in
        let low = All-cons IsInLowestTerms (sum_so_far tables nodes) (expected_at tables nodes) (first-lowest tables (filter is_leaf nodes) h)
        (expected_at-lowest tables nodes h) in
        All-head (λ (f : Fraction). f.den ∣ unit_of all) (sum_so_far tables nodes) (expected_at tables nodes) (den-divides all low)
