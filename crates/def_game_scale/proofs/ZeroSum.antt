-- A zero-sum game is one of constant sum 0.
use Rattle.std.proofs.Common.{◌≡◌, ℕ, ◌*◌, ◌/◌, List, [], ◌∷◌, map, refl, ap, sym, ◌∙◌}
use Rattle.std.specs.Prelude.{pos, All}
use Rattle.std.proofs.lemmas.List.Elements.{All-head, All-weaker}
use Rattle.std.proofs.Math.IntN.{zero-*ℤ}
use Rattle.std.proofs.Math.Nat.{one-mul}
use Rattle.def_tree.specs.Tree.{Forest}
use Rattle.def_fraction.specs.Divisors.{lcm}
use Rattle.def_fraction.specs.Fraction.{Fraction, zero_fraction}
use Rattle.def_fraction.proofs.DivisorLemmas.{gcd-one}
use Rattle.def_game_paths.specs.Paths.{Visit, leaf_visits}
use Rattle.def_game_scale.specs.Tables.{Tables, first_sum, game_sum, paid_together}
use Rattle.def_game_scale.specs.Scale.{all_expected, game_unit, unit_of, weight_of}
use Rattle.def_game_scale.specs.Laws.{IsAsZeroSum}

lcm-one : (n : ℕ) → lcm 1 n ≡ n
lcm-one n = ap (λ g. 1 / g * n) (gcd-one n) ∙ one-mul n

-- a sum of 0 adds nothing to the unit
unit-of_zero : (f : Fraction) (fs : List Fraction) → f ≡ zero_fraction → unit_of (f ∷ fs) ≡ unit_of fs
unit-of_zero f fs zero = ap (λ (g : Fraction). lcm g.den (unit_of fs)) zero ∙ lcm-one (unit_of fs)

-- where all leaves pay nothing together, so does the first
pub first-zero : (tables : Tables) (vs : List Visit) → All (λ v. paid_together tables v ≡ zero_fraction) vs
    → first_sum tables vs ≡ zero_fraction
first-zero tables [] h = refl
first-zero tables (v ∷ vs) h = All-head (λ w. paid_together tables w ≡ zero_fraction) v vs h

pub as_zero_sum : (tables : Tables) (tree : Forest) → IsAsZeroSum tables tree
as_zero_sum tables tree =
    let leaves : List Visit = leaf_visits tree in
    let sum : Fraction = game_sum tables tree in
    record {
      constant = (
        λ zero. let none : sum ≡ zero_fraction = first-zero tables leaves
            zero in (All-weaker (λ v. paid_together tables v ≡ zero_fraction) (λ v. paid_together tables v ≡ sum) (λ v e. e ∙ sym none) leaves zero, none),
        λ both. All-weaker (λ v. paid_together tables v ≡ sum) (λ v. paid_together tables v ≡ zero_fraction) (λ v e. e ∙ both.1) leaves both.0,
      );
      running_unit = λ nodes zero. unit-of_zero _ _ zero;
      unit = λ zero. unit-of_zero sum (all_expected tables tree) zero;
      weights_are = λ zero. ap (λ unit. map (weight_of unit) (all_expected tables tree)) (unit-of_zero sum (all_expected tables tree) zero);
      no_sum = λ zero. ap (weight_of (game_unit tables tree)) zero ∙ zero-*ℤ (pos (game_unit tables tree / 1));
    }
