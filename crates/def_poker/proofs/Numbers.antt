-- One-card poker passes each walk over its numbers, and both players remember their choices.
use Rattle.std.proofs.Common.{◌≡◌, ℕ, suc, ◌+◌, ◌-◌, ◌*◌, ◌/◌, ◌≤◌, Bool, true, false, cond, List, [], ◌∷◌, ◌++◌, get_or, length, map, refl, sym, ap, ◌∙◌}
use Rattle.std.proofs.Common.{subst, arith, le_trans, mul-le-mul, div-le_self}
use Rattle.std.specs.Prelude.{pos, ◌≤ℤ◌, unsigned_abs, filter, sum, All}
use Prim.Native.Nat.{◌∣◌}
use Rattle.std.proofs.lemmas.List.{length-append, length-map}
use Rattle.std.proofs.lemmas.List.Sums.{sum_by-cons}
use Rattle.std.proofs.lemmas.List.Elements.{All-nil, All-cons, All-head, All-tail, All-map, All-filter, All-weaker}
use Rattle.std.proofs.lemmas.Int.{ints, unsigned_abs-mul}
use Rattle.std.proofs.lemmas.Nat.Gcd.{le_of_dvd}
use Rattle.std.proofs.Math.Nat.{one-dvd, one-le-mul}
use Rattle.def_tree.specs.Tree.{Forest}
use Rattle.def_tree.proofs.Fronts.{All-behind, All-front}
use Rattle.def_fraction.specs.Divisors.{gcd}
use Rattle.def_fraction.specs.Fraction.{Fraction, IsInLowestTerms, fits, fraction_of, sum_of, zero_fraction}
use Rattle.def_game_paths.specs.Paths.{Visit, is_leaf, visits}
use Rattle.def_game_paths.specs.Recall.{HasPerfectRecall, is_personal}
use Rattle.def_game_scale.specs.Tables.{AreFractions, paid_together, payoff_one, payoff_two, probabilities, reach}
use Rattle.def_game_scale.specs.Scale.{expected, expected_at, game_unit, sum_so_far, unit_so_far, weight_of, whole_sum}
use Rattle.def_game_scale.specs.First.{EachPasses, MassPasses, NodePasses, PassNumbers, PathFits, SignsPass, SumsPass, WholeSumPasses}
use Rattle.def_game_scale.proofs.Expected.{expected-lowest, first-lowest}
use Rattle.def_game_scale.proofs.Units.{unit-divides}
use Rattle.def_game_scale.proofs.ZeroSum.{first-zero}
use Rattle.def_poker.proofs.Parts.{IsPart, part_fits, product_part}
use Rattle.def_poker.proofs.Chances.{AreEach, chances_pass}
use Rattle.def_poker.proofs.Visits.{Good, Prize, nobody, one_gets_one, one_gets_two, pairs, past_at, prize_pair, told, two_gets_one, two_gets_two}

-- ---- what is paid
paid_nothing : (w : Prize) → sum_of (sum_of zero_fraction (prize_pair w).one) (sum_of zero_fraction (prize_pair w).two) ≡ zero_fraction
unfolding fraction_of gcd
paid_nothing nobody = refl
paid_nothing one_gets_one = refl
paid_nothing two_gets_one = refl
paid_nothing one_gets_two = refl
paid_nothing two_gets_two = refl

one_is : (w : Prize) → sum_of zero_fraction (prize_pair w).one ≡ (prize_pair w).one
unfolding fraction_of gcd
one_is nobody = refl
one_is one_gets_one = refl
one_is two_gets_one = refl
one_is one_gets_two = refl
one_is two_gets_two = refl

two_is : (w : Prize) → sum_of zero_fraction (prize_pair w).two ≡ (prize_pair w).two
unfolding fraction_of gcd
two_is nobody = refl
two_is one_gets_one = refl
two_is two_gets_one = refl
two_is one_gets_two = refl
two_is two_gets_two = refl

one_part : (w : Prize) → IsPart 1 2 (prize_pair w).one
one_part nobody = record { few = omega arith; divides = one-dvd 1; some = omega arith }
one_part one_gets_one = record { few = omega arith; divides = one-dvd 1; some = omega arith }
one_part two_gets_one = record { few = omega arith; divides = one-dvd 1; some = omega arith }
one_part one_gets_two = record { few = omega arith; divides = one-dvd 1; some = omega arith }
one_part two_gets_two = record { few = omega arith; divides = one-dvd 1; some = omega arith }

one_fits : (w : Prize) → fits (prize_pair w).one ≡ true
one_fits nobody = refl
one_fits one_gets_one = refl
one_fits two_gets_one = refl
one_fits one_gets_two = refl
one_fits two_gets_two = refl

two_fits : (w : Prize) → fits (prize_pair w).two ≡ true
two_fits nobody = refl
two_fits one_gets_one = refl
two_fits two_gets_one = refl
two_fits one_gets_two = refl
two_fits two_gets_two = refl

-- ---- lists
-- what holds of each holds of one, and of those up to it
at_place : {X : Type 0} (P : X → Type 0) (all before : List X) (x : X) (after : List X) → all ≡ before ++ x ∷ after → All P all → P x
at_place P all before x after place h = All-head P x after (All-behind P before (x ∷ after) (subst (All P) place h))

up_to : {X : Type 0} (P : X → Type 0) (all before : List X) (x : X) (after : List X) → all ≡ before ++ x ∷ after → All P all → All P (before ++ x ∷ [])
up_to P all before x after place h = All-front P (before ++ x ∷ []) after (subst (All P) (place ∙ joined before) h)
  where
    joined : (ys : List _) → ys ++ x ∷ after ≡ (ys ++ x ∷ []) ++ after
    joined [] = refl
    joined (y ∷ ys) = ap (λ zs. y ∷ zs) (joined ys)

each_positive : (k : ℕ) (ps : List Fraction) → AreEach k ps → All (λ p. pos 0 ≤ℤ p.num) ps
each_positive k [] are = All-nil (λ (p : Fraction). pos 0 ≤ℤ p.num)
each_positive k (p ∷ ps) are =
    All-cons (λ (q : Fraction). pos 0 ≤ℤ q.num) p ps (subst (λ (q : Fraction). pos 0 ≤ℤ q.num) (sym are.0) (omega (arith, ints))) (each_positive k ps are.1)

short_filter : {X : Type 0} (p : X → Bool) (xs : List X) → length (filter p xs) ≤ length xs
short_filter p [] = omega arith
short_filter p (x ∷ xs) = chosen (p x) (short_filter p xs)
  where
    chosen : (b : Bool) → length (filter p xs) ≤ length xs → length (cond b (x ∷ filter p xs) (filter p xs)) ≤ suc (length xs)
    chosen true h = omega (arith, h)
    chosen false h = omega (arith, h)

small_mass : (unit : ℕ) (fs : List Fraction) → unit ≤ 4032 → All (λ f. unsigned_abs f.num ≤ 2) fs
    → sum (map unsigned_abs (map (weight_of unit) fs)) ≤ 8064 * length fs
small_mass unit [] few h = omega arith
small_mass unit (f ∷ fs) few h =
    let size : unsigned_abs (weight_of unit f) ≡ unsigned_abs f.num * (unit / f.den) = unsigned_abs-mul f.num (pos (unit / f.den)) in
    let small : unsigned_abs f.num * (unit / f.den) ≤ 2 * 4032 =
    mul-le-mul (All-head (λ (g : Fraction). unsigned_abs g.num ≤ 2) f fs h) (le_trans (div-le_self unit f.den) few) in
    let rest = small_mass unit fs few (All-tail (λ (g : Fraction). unsigned_abs g.num ≤ 2) f fs h) in
    sums (unsigned_abs (weight_of unit f)) (map unsigned_abs (map (weight_of unit) fs)) (length fs) (omega (arith, size, small)) rest
  where
    sums : (x : ℕ) (xs : List ℕ) (k : ℕ) → x ≤ 8064 → sum xs ≤ 8064 * k → sum (x ∷ xs) ≤ 8064 * suc k
    sums x xs k here later = omega (arith, here, later, sum_by-cons (λ y. y) x xs)

module _ (n : ℕ) (least : 2 ≤ n) (limit : n ≤ 64) (lowest : AreFractions (told n)) where
  some_pairs : 1 ≤ pairs n
  some_pairs = let first : 1 ≤ n = omega (arith, least) in let second : 1 ≤ n - 1 = omega (arith, least) in one-le-mul first second

  few_pairs : pairs n ≤ 4032
  few_pairs = let second : n - 1 ≤ 63 = omega (arith, limit) in mul-le-mul limit second

  module _ (v : Visit) (good : Good n v) where
    pays_nothing : paid_together (told n) v ≡ zero_fraction
    pays_nothing =
        (λ i. sum_of (sum_of (good.way.one i) (good.prize.1 i).one) (sum_of (good.way.two i) (good.prize.1 i).two)) ∙ paid_nothing good.prize.0

    pays_one : payoff_one (told n) v ≡ (prize_pair good.prize.0).one
    pays_one = (λ i. sum_of (good.way.one i) (good.prize.1 i).one) ∙ one_is good.prize.0

    pays_two : payoff_two (told n) v ≡ (prize_pair good.prize.0).two
    pays_two = (λ i. sum_of (good.way.two i) (good.prize.1 i).two) ∙ two_is good.prize.0

    expected_part : IsPart (pairs n * 1) (1 * 2) (expected (told n) v)
    expected_part = product_part (pairs n) 1 1 2 (reach (told n) v.path) (payoff_one (told n) v) good.way.reached
        (subst (IsPart 1 2) (sym pays_one) (one_part good.prize.0))

    expected_divides : (expected (told n) v).den ∣ pairs n
    expected_divides = let same : pairs n * 1 ≡ pairs n = omega arith in subst (λ x. (expected (told n) v).den ∣ x) same expected_part.divides

    path_fits : PathFits (told n) v
    path_fits = record {
      reach_fits = part_fits (pairs n) 1 (reach (told n) v.path) some_pairs (omega (arith, few_pairs)) (omega arith) good.way.reached;
      one_fits = ap fits pays_one ∙ one_fits good.prize.0;
      two_fits = ap fits pays_two ∙ two_fits good.prize.0;
    }

  sum_nothing : (vs : List Visit) → All (Good n) vs → sum_so_far (told n) vs ≡ zero_fraction
  sum_nothing vs h =
      first-zero (told n) (filter is_leaf vs)
      (All-filter is_leaf (λ v. paid_together (told n) v ≡ zero_fraction) vs
      (All-weaker (Good n) (λ v. paid_together (told n) v ≡ zero_fraction) pays_nothing vs h))

  unit_small : (vs : List Visit) → All (Good n) vs → unit_so_far (told n) vs ≤ 4032
  unit_small vs h =
      let first = sum_so_far (told n) vs in
      let rest = expected_at (told n) vs in
      let low : All IsInLowestTerms (first ∷ rest) =
      All-cons IsInLowestTerms first rest (first-lowest (told n) (filter is_leaf vs) lowest)
      (All-map IsInLowestTerms (expected (told n)) (filter is_leaf vs) (λ k d there. expected-lowest (told n) (get_or (filter is_leaf vs) k d) lowest)) in
      let Divides : Fraction → Type 0 = λ f. f.den ∣ pairs n in
      let divide : All Divides (first ∷ rest) =
      All-cons Divides first rest (subst Divides (sym (sum_nothing vs h)) (one-dvd (pairs n)))
      (All-map Divides (expected (told n)) (filter is_leaf vs)
      (All-filter is_leaf (λ v. Divides (expected (told n) v)) vs (All-weaker (Good n)
      (λ v. Divides (expected (told n) v)) expected_divides vs h))) in
      le_trans (le_of_dvd some_pairs (unit-divides (first ∷ rest) (pairs n) low divide)) few_pairs

  module _ (tree : Forest) (all : All (Good n) (visits tree)) (count : length (visits tree) ≤ 36353) where
    signs : EachPasses (SignsPass (told n)) (visits tree)
    signs before v after place chance =
        let c = (at_place (Good n) (visits tree) before v after place all).chance chance in
        each_positive c.0 (probabilities (told n) v.node.set) c.3

    sums : EachPasses (SumsPass (told n)) (visits tree)
    sums before v after place chance =
        let c = (at_place (Good n) (visits tree) before v after place all).chance chance in
        chances_pass c.0 (probabilities (told n) v.node.set) c.1 c.2 c.3 c.4

    nodes : EachPasses (NodePasses (told n)) (visits tree)
    nodes before v after place =
        let good = at_place (Good n) (visits tree) before v after place all in
        let so_far = up_to (Good n) (visits tree) before v after place all in
        record {
          path = path_fits v good;
          leaf = λ _. record {
            sum_fits = ap fits (pays_nothing v good);
            pays_the_sum = pays_nothing v good ∙ sym (sum_nothing (before ++ v ∷ []) so_far);
            expected_fits = part_fits (pairs n * 1) (1 * 2) (expected (told n) v)
                (omega (arith, some_pairs)) (omega (arith, few_pairs)) (omega arith) (expected_part v good);
            unit_fits = omega (arith, unit_small (before ++ v ∷ []) so_far);
          };
        }

    whole : EachPasses (WholeSumPasses (unsigned_abs (whole_sum (told n) tree))) (visits tree)
    whole before v after place _ =
        let none : whole_sum (told n) tree ≡ weight_of (game_unit (told n) tree) zero_fraction =
        ap (weight_of (game_unit (told n) tree)) (sum_nothing (visits tree) all) in
        let zero_times : 0 * (game_unit (told n) tree / 1) ≡ 0 = omega arith in
        omega (arith, ap unsigned_abs none, zero_times)

    masses : EachPasses (MassPasses (told n) (game_unit (told n) tree)) (visits tree)
    masses before v after place _ =
        let so_far = up_to (Good n) (visits tree) before v after place all in
        let xs = before ++ v ∷ [] in
        let Small : Fraction → Type 0 = λ f. unsigned_abs f.num ≤ 2 in
        let small : All Small (expected_at (told n) xs) =
        All-map Small (expected (told n)) (filter is_leaf xs)
        (All-filter is_leaf (λ w. Small (expected (told n) w)) xs (All-weaker (Good n) (λ w. Small (expected (told n) w))
        (λ w g. (expected_part w g).few) xs so_far)) in
        let mass = small_mass (game_unit (told n) tree) (expected_at (told n) xs) (unit_small (visits tree) all) small in
        let few = short_filter is_leaf xs in
        let long : length (visits tree) ≡ length before + suc (length after) = ap length place ∙ length-append before (v ∷ after) in
        omega (arith, mass, length-map (filter is_leaf xs) (expected (told n)), few, length-append before (v ∷ []), long, count)

    pub passes : PassNumbers (told n) tree
    passes = record { signs = signs; sums = sums; nodes = nodes; whole = whole; masses = masses }

    pub recalls : HasPerfectRecall tree
    recalls i j d before within personal same_kind same_set =
        let v = get_or (visits tree) i d in
        let w = get_or (visits tree) j d in
        let first = all i d (omega (arith, before, within)) in
        let second = all j d within in
        first.remembers personal ∙ (λ k. past_at n (same_kind k) (same_set k)) ∙ sym (second.remembers (ap is_personal (sym same_kind) ∙ personal))
