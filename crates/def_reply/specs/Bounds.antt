-- What a plan is sure of, against every plan of the other player in whole numbers: bounds of its security level (von
-- Neumann and Morgenstern 1944).
use Rattle.std.specs.Prelude.{◌≡◌, ℕ, List, ℤ, pos, ◌-ℤ◌, ◌*ℤ◌, ◌≤ℤ◌}
use Rattle.def_plan.specs.Form.{SequenceForm}
use Rattle.def_plan.specs.Plan.{IsPlan}
use Rattle.def_plan.specs.Payoff.{pay}

-- player one's plan gets at least the floor times the other plan's root
abbrev pub IsFloor : SequenceForm → List ℕ → ℤ → Type 0
IsFloor form plan_one floor = (root : ℕ) (plan_two : List ℕ) → IsPlan form.sets_two root plan_two → (pos root *ℤ floor)
    ≤ℤ pay form.leaves plan_one plan_two

-- player two's plan concedes at most the ceiling times the other plan's root
abbrev pub IsCeiling : SequenceForm → List ℕ → ℤ → Type 0
IsCeiling form plan_two ceiling = (root : ℕ) (plan_one : List ℕ) → IsPlan form.sets_one root plan_one
    → pay form.leaves plan_one plan_two ≤ℤ (pos root *ℤ ceiling)

-- a plan of root 1 that gives just that
pub record AttainsFloor (form : SequenceForm) (plan_one : List ℕ) (floor : ℤ) (plan_two : List ℕ) : Type 0 where
  pub is_plan : IsPlan form.sets_two 1 plan_two
  pub pays : pay form.leaves plan_one plan_two ≡ floor

pub record AttainsCeiling (form : SequenceForm) (plan_two : List ℕ) (ceiling : ℤ) (plan_one : List ℕ) : Type 0 where
  pub is_plan : IsPlan form.sets_one 1 plan_one
  pub pays : pay form.leaves plan_one plan_two ≡ ceiling

-- the best payoff of player one against a plan of player two, and what player two's best replies leave a plan of player
-- one: bounds that some plan attains
pub record IsBestAgainst (form : SequenceForm) (plan_two : List ℕ) (best : ℤ) : Type 0 where
  pub reply : List ℕ
  pub ceiling : IsCeiling form plan_two best
  pub attained : AttainsCeiling form plan_two best reply

pub record IsLeft (form : SequenceForm) (plan_one : List ℕ) (left : ℤ) : Type 0 where
  pub reply : List ℕ
  pub floor : IsFloor form plan_one left
  pub attained : AttainsFloor form plan_one left reply

-- the total exploitability of two plans: player one's best payoff against the one, less what is left to the other, each
-- over its plan's root, and together over the product of the roots
pub record IsExploitability (form : SequenceForm) (root_one root_two : ℕ) (plan_one plan_two : List ℕ)
    (gap : ℤ) : Type 0 where
  pub best : ℤ
  pub left : ℤ
  pub is_best : IsBestAgainst form plan_two best
  pub is_left : IsLeft form plan_one left
  pub is : gap ≡ (pos root_one *ℤ best) -ℤ (pos root_two *ℤ left)
