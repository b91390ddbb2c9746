-- Sums of the plan (3; 1, 2) of matching pennies.
use Rattle.std.proofs.Common.{◌≡◌, ℕ, zero, suc, ◌+◌, ◌*◌, [], ◌∷◌, List, refl, sym, subst, arith}
use Rattle.std.proofs.lemmas.List.Elements.{All-cons, All-nil}
use Rattle.def_plan.specs.Form.{IsInOrder, PlacedSet}
use Rattle.def_plan.specs.Pennies.{one_set}
use Rattle.def_plan.specs.Plan.{AddsUp, IsPlan, IsPlanOrCleared}
use Rattle.def_plus.specs.Multiple.{multiple}
use Rattle.xg_plan.specs.Plan.{AreOfOneForm}

abbrev h : PlacedSet
h = record { first = 1; before = 0; actions = 2 }

abbrev pub three_units : List ℕ
three_units = 3 ∷ 1 ∷ 2 ∷ []

some_plan : (n : ℕ) → IsPlan one_set (suc (2 + n * 3)) (multiple (suc n) three_units)
some_plan n = record {
  all_sequences = refl;
  some_root = omega arith;
  root_weight = omega arith;
  each_set = All-cons (AddsUp (multiple (suc n) three_units)) h [] (omega arith) (All-nil (AddsUp (multiple (suc n) three_units)));
}

are_plans : (times : ℕ) → IsPlanOrCleared one_set (times * 3) (multiple times three_units)
are_plans zero = refl
are_plans (suc n) =
    let grown : suc (2 + n * 3) ≡ suc n * 3 = omega arith in
    subst (λ root. IsPlanOrCleared one_set root (multiple (suc n) three_units)) grown (some_plan n)

-- what the plan makes when it is added so many times is of one form with it
pub one_form : (sum plan : List ℕ) (times : ℕ) → sum ≡ multiple times three_units → plan ≡ three_units → AreOfOneForm sum plan
one_form sum plan times is_sum is_plan =
    subst (λ s. AreOfOneForm s plan) (sym is_sum)
    (subst (λ p. AreOfOneForm (multiple times three_units) p) (sym is_plan)
    (record {
      sets = one_set;
      order = All-cons IsInOrder h [] (omega arith, omega arith) (All-nil IsInOrder);
      first = are_plans times;
      second = are_plans 1;
    }))
