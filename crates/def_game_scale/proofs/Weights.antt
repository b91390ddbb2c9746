-- Unit times reach times payoff is the weight.
use Rattle.std.proofs.Common.{◌≡◌, ℕ, ◌*◌, ◌≤◌, List, [], ◌∷◌, map, ap, sym, ◌∙◌, arith}
use Rattle.std.specs.Prelude.{ℤ, pos, ◌*ℤ◌, unsigned_abs, All}
use Rattle.std.specs.List.{AllZip}
use Prim.Native.Nat.{◌∣◌}
use Rattle.std.proofs.lemmas.List.Elements.{All-head, All-tail}
use Rattle.std.proofs.lemmas.Int.{ints}
use Rattle.std.proofs.Math.IntN.{*ℤ_comm}
use Rattle.std.proofs.Math.Nat.{one-mul}
use Rattle.def_tree.specs.Tree.{Forest}
use Rattle.def_fraction.specs.Fraction.{Fraction, IsInLowestTerms, product_of, whole_number}
use Rattle.def_fraction.proofs.DivisorLemmas.{gcd-with_one}
use Rattle.def_fraction.proofs.FractionLemmas.{fraction_of-value}
use Rattle.def_game_paths.specs.Paths.{Visit, leaf_visits}
use Rattle.def_game_scale.specs.Tables.{Tables, AreFractions, game_sum}
use Rattle.def_game_scale.specs.Scale.{all_expected, all_fractions, expected, game_unit, weight_of, weights, whole_sum}
use Rattle.def_game_scale.specs.Laws.{IsMultiple, IsWeightOf}
use Rattle.def_game_scale.proofs.Units.{den-divides, whole-weight}
use Rattle.def_game_scale.proofs.Expected.{expected-lowest, fractions-lowest}

pub whole-lowest : (n : ℤ) → IsInLowestTerms (whole_number n)
whole-lowest n = record { positive = omega arith; coprime = gcd-with_one (unsigned_abs n) }

-- a multiple of a fraction is the product with that number
multiple-product : (m : ℕ) (f : Fraction) (w : ℤ) → 1 ≤ f.den → IsMultiple m f w
    → whole_number w ≡ product_of (whole_number (pos m)) f
multiple-product m f w positive e =
    let value : w *ℤ pos (1 * f.den) ≡ (pos m *ℤ f.num) *ℤ pos 1 =
    ap (λ d. w *ℤ pos d) (one-mul f.den) ∙ e ∙ *ℤ_comm f.num (pos m) ∙ sym (times-one (pos m *ℤ f.num)) in
    sym (fraction_of-value (whole_number w) (pos m *ℤ f.num) (1 * f.den) (whole-lowest w) (omega (arith, positive)) value)
  where
    times-one : (n : ℤ) → n *ℤ pos 1 ≡ n
    times-one n = omega (arith, ints)

whole-along : (tables : Tables) (unit : ℕ) (vs : List Visit) → AreFractions tables
    → All (λ f. f.den ∣ unit) (map (expected tables) vs) →
    AllZip (IsWeightOf tables unit) vs (map (weight_of unit) (map (expected tables) vs))
whole-along tables unit [] h all = tt
whole-along tables unit (v ∷ rest) h all = (
  multiple-product unit (expected tables v) (weight_of unit (expected tables v)) (expected-lowest tables v h).positive
      (whole-weight unit (expected tables v) (All-head (λ (f : Fraction). f.den ∣ unit) (expected tables v) (map (expected tables) rest) all)),
  whole-along tables unit rest h (All-tail (λ (f : Fraction). f.den ∣ unit) (expected tables v) (map (expected tables) rest) all),
)

-- there are as many weights as leaves, and each is exactly the unit times its leaf's reach times payoff
pub whole-weights : (tables : Tables) (tree : Forest) → AreFractions tables
    → AllZip (IsWeightOf tables (game_unit tables tree)) (leaf_visits tree) (weights tables tree)
whole-weights tables tree h =
    let Divides : Fraction → Type 0 = λ f. f.den ∣ game_unit tables tree in
    whole-along tables (game_unit tables tree) (leaf_visits tree) h
    (All-tail Divides (game_sum tables tree) (all_expected tables tree) (den-divides (all_fractions tables tree) (fractions-lowest tables tree h)))

-- the game's sum is whole in the unit
pub whole-sum : (tables : Tables) (tree : Forest) → AreFractions tables
    → IsMultiple (game_unit tables tree) (game_sum tables tree) (whole_sum tables tree)
whole-sum tables tree h =
    let Divides : Fraction → Type 0 = λ f. f.den ∣ game_unit tables tree in
    whole-weight (game_unit tables tree) (game_sum tables tree)
    (All-head Divides (game_sum tables tree) (all_expected tables tree) (den-divides (all_fractions tables tree) (fractions-lowest tables tree h)))
