-- Plans that can be added.
use Rattle.std.specs.Prelude.{ℕ, List, slice_index}
use Rattle.def_plan.specs.Form.{AreInOrder, InformationSet}
use Rattle.def_plan.specs.Plan.{IsPlanOrCleared}

-- both are plans or cleared ones over the sets of one player
pub record AreOfOneForm (sum plan : List ℕ) : Type 0 where
  pub sets : List InformationSet
  pub order : AreInOrder sets
  pub first : IsPlanOrCleared sets (slice_index sum 0) sum
  pub second : IsPlanOrCleared sets (slice_index plan 0) plan
