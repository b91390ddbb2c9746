-- What weighing answers.
use Rattle.std.proofs.Common.{◌≡◌, ◌∙◌, ℕ, ◌+◌, ◌*◌, ◌≤◌, true, List, [], ◌∷◌, map, ap, sym, refl, subst, arith}
use Rattle.std.specs.Prelude.{Option, Ok, Err, ℤ, pos, sum, unsigned_abs, nat_le, All}
use Rattle.std.specs.List.{AllZip}
use Prim.Native.Nat.{◌∣◌}
use Rattle.std.proofs.lemmas.Bool.{and_from, le-leb}
use Rattle.std.proofs.lemmas.Int.{unsigned_abs-mul}
use Rattle.std.proofs.lemmas.List.Elements.{All-cons, All-head, All-nil}
use Rattle.std.proofs.lemmas.List.Sums.{sum_by-cons}
use Rattle.std.proofs.lemmas.Nat.Gcd.{dvd_antisymm, le_of_dvd}
use Rattle.std.proofs.Math.Nat.{le_of_mul-le-mul_right, mul-le-mul_left}
use Rattle.def_tree.specs.Tree.{Forest}
use Rattle.def_fraction.specs.Fraction.{Fraction, IsInLowestTerms, fits, most}
use Rattle.def_file.specs.Content.{GameFile}
use Rattle.def_game_paths.specs.Paths.{Visit, leaf_visits}
use Rattle.def_game_scale.specs.Tables.{Tables, AreFractions, game_sum}
use Rattle.def_game_scale.specs.Scale.{all_expected, all_fractions, game_unit, weights, whole_sum}
use Rattle.def_game_scale.specs.Laws.{IsMultiple, IsWeightOf}
use Rattle.def_game_scale.proofs.Units.{den-divides, unit-divides, unit-positive}
use Rattle.def_game_scale.proofs.Expected.{fractions-lowest}
use Rattle.def_game_scale.proofs.Weights.{whole-sum, whole-weights}
use Rattle.def_game_scale.specs.Faults.{GameFault, number_fault}
use Rattle.def_game_scale.proofs.First.{number_first}
use Rattle.def_game_scale.proofs.Sound.{sound_numbers}
use Rattle.def_game_numbers.specs.Numbers.{GameWeights, refused_or, tables_of, weigh, weights_of_game}
use Rattle.def_game_numbers.specs.Laws.{AreWeights, FitTheLimit, IsWeighed}
use Rattle.def_game_numbers.proofs.Refusals.{accepted, refused}

are_weights : (tables : Tables) (tree : Forest) → AreFractions tables
    → AreWeights tables tree (weights_of_game tables tree)
are_weights tables tree h = record {
  sum_is = refl;
  multiple = den-divides (all_fractions tables tree) (fractions-lowest tables tree h);
  least = λ m all. unit-divides (all_fractions tables tree) m (fractions-lowest tables tree h) all;
  leaves = whole-weights tables tree h;
  mass = refl;
}

-- a leaf has one weight
one_weight : (tables : Tables) (unit : ℕ) (vs : List Visit) (xs ys : List ℤ) → AllZip (IsWeightOf tables unit) vs xs
    → AllZip (IsWeightOf tables unit) vs ys → xs ≡ ys
one_weight tables unit [] [] [] p q = refl
one_weight tables unit [] [] (y ∷ ys) p q = absurd q
one_weight tables unit [] (x ∷ xs) ys p q = absurd p
one_weight tables unit (v ∷ vs) [] ys p q = absurd p
one_weight tables unit (v ∷ vs) (x ∷ xs) [] p q = absurd q
one_weight tables unit (v ∷ vs) (x ∷ xs) (y ∷ ys) p q =
    let same : x ≡ y = ap (λ (f : Fraction). f.num) (p.0 ∙ sym q.0) in
    ap (λ w. w ∷ xs) same ∙ ap (λ ws. y ∷ ws) (one_weight tables unit vs xs ys p.1 q.1)

only_weights : (tables : Tables) (tree : Forest) (a b : GameWeights) → AreWeights tables tree a
    → AreWeights tables tree b → a ≡ b
only_weights tables tree a b p q =
    let units : a.unit ≡ b.unit = dvd_antisymm (p.least b.unit q.multiple) (q.least a.unit p.multiple) in
    let leaves : a.leaves ≡ b.leaves = one_weight tables b.unit (leaf_visits tree) a.leaves b.leaves
    (subst (λ u. AllZip (IsWeightOf tables u) (leaf_visits tree) a.leaves) units p.leaves) q.leaves in
    let masses : a.mass ≡ b.mass = p.mass ∙ ap (λ ws. sum (map unsigned_abs ws)) leaves ∙ sym q.mass in
    λ i. record { sum = (p.sum_is ∙ sym q.sum_is) i; unit = units i; mass = masses i; leaves = leaves i }

-- weighing refuses exactly with the first fault of the numbers, and accepts exactly where they have none
pub weighing : (game : GameFile) → AreFractions (tables_of game) → IsWeighed game
weighing game h =
    let tables : Tables = tables_of game in
    let tree : Forest = game.tree in
    let numbers : Option GameFault = number_fault tables tree in
    let given : GameWeights = weights_of_game tables tree in
    let first = number_first tables tree h in
    record {
      refused = λ fault. (
        λ e. let found = refused numbers given fault e in (found.0, (first.some found.0).0 found.1, found.2),
        λ found. ap (λ o. refused_or o given) ((first.some found.0).1 found.1) ∙ ap Err (sym found.2),
      );
      accepted = λ answer. (
        λ e. let parts = accepted numbers given answer e in (first.none.0 parts.0, subst (AreWeights tables tree) parts.1 (are_weights tables tree h)),
        λ found. ap (λ o. refused_or o given) (first.none.1 found.0) ∙ ap Ok (only_weights tables tree given answer (are_weights tables tree h) found.1),
      );
    }

-- each size is at most the sum of all
each_in_sum : (ws : List ℤ) (limit : ℕ) → sum (map unsigned_abs ws) ≤ limit → All (λ w. unsigned_abs w ≤ limit) ws
each_in_sum [] limit h = All-nil (λ w. unsigned_abs w ≤ limit)
each_in_sum (w ∷ ws) limit h =
    let parts : sum (map unsigned_abs (w ∷ ws)) ≡ unsigned_abs w + sum (map unsigned_abs ws) = sum_by-cons (λ x. x) (unsigned_abs w) (map unsigned_abs ws) in
    All-cons (λ x. unsigned_abs x ≤ limit) w ws (omega arith) (each_in_sum ws limit (omega arith))

-- a number that times m is n times m is n
only_multiple : (m : ℕ) (f : Fraction) (v w : ℤ) → 1 ≤ f.den → IsMultiple m f v → IsMultiple m f w
    → unsigned_abs v ≡ unsigned_abs w
only_multiple m f v w positive p q =
    let sizes : unsigned_abs v * f.den ≡ unsigned_abs w * f.den = sym (unsigned_abs-mul v (pos f.den)) ∙ ap unsigned_abs (p ∙ sym q)
    ∙ unsigned_abs-mul w (pos f.den) in
    let size : ℤ → ℕ = unsigned_abs in
    let below : size v ≤ size w = le_of_mul-le-mul_right (subst (λ n. size v * f.den ≤ n) sizes (omega arith)) positive in
    let above : size w ≤ size v = le_of_mul-le-mul_right (subst (λ n. n ≤ size v * f.den) sizes (omega arith)) positive in
    omega arith

-- a sum that is within the limit in a unit within it fits
sum_within : (m : ℕ) (f : Fraction) (w : ℤ) → 1 ≤ m → m ≤ most → f.den ∣ m → IsMultiple m f w → unsigned_abs w ≤ most
    → fits f ≡ true
sum_within m f w some limit divides multiple within =
    let den : f.den ≤ m = le_of_dvd some divides in
    let sizes : unsigned_abs w * f.den ≡ unsigned_abs f.num * m = sym (unsigned_abs-mul w (pos f.den)) ∙ ap unsigned_abs multiple
    ∙ unsigned_abs-mul f.num (pos m) in
    let num : unsigned_abs f.num ≤ unsigned_abs w = le_of_mul-le-mul_right (subst (λ n. n ≤ unsigned_abs w * m) sizes (mul-le-mul_left (unsigned_abs w) den))
    some in
    and_from (nat_le (unsigned_abs f.num) most) (nat_le f.den most) (le-leb (unsigned_abs f.num) most (omega arith)) (le-leb f.den most (omega arith))

-- the unit isn't 0, and the sum, the unit, the sum in the unit, the mass and each weight are within the limit
pub fitting : (game : GameFile) (answer : GameWeights) → AreFractions (tables_of game) → weigh game ≡ Ok answer
    → FitTheLimit answer
fitting game answer h e =
    let tables : Tables = tables_of game in
    let tree : Forest = game.tree in
    let parts = accepted (number_fault tables tree) (weights_of_game tables tree) answer e in
    let sound = sound_numbers tables tree h parts.0 in
    let low = fractions-lowest tables tree h in
    let unit : ℕ = game_unit tables tree in
    let sum : Fraction = game_sum tables tree in
    let whole = whole-sum tables tree h in
    let positive = unit-positive (all_fractions tables tree) low in
    let divides = All-head (λ (f : Fraction). f.den ∣ unit) sum (all_expected tables tree) (den-divides (all_fractions tables tree) low) in
    let some_den = (All-head IsInLowestTerms sum (all_expected tables tree) low).positive in
    subst FitTheLimit parts.1 (record {
      sum_fits = sum_within unit sum (whole_sum tables tree) positive sound.unit_within divides whole sound.whole_sum_within;
      positive = positive;
      unit = sound.unit_within;
      whole_sum = λ w is. subst (λ n. n ≤ most) (only_multiple unit sum (whole_sum tables tree) w some_den whole is) sound.whole_sum_within;
      mass = sound.mass_within;
      leaves = each_in_sum (weights tables tree) most sound.mass_within;
    })
