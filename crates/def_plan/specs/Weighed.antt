-- A game in numbers.
use Rattle.std.specs.Prelude.{ℕ}
use Rattle.def_fraction.specs.Fraction.{Fraction}
use Rattle.def_plan.specs.Form.{SequenceForm}

-- how many nodes its tree has, what each leaf pays both players together, and its sequence form with the unit of its
-- weights
pub record WeighedGame : Type 0 where
  pub nodes : ℕ
  pub sum : Fraction
  pub unit : ℕ
  pub form : SequenceForm
