-- A plan of the greatest root as a multiple of one of the greatest scale.
use Rattle.std.proofs.Common.{◌≡◌, ℕ, zero, suc, List, arith, sym, subst, slice_index}
use Rattle.def_plan.specs.Form.{AreInOrder, InformationSet}
use Rattle.def_plan.specs.Plan.{IsPlan, IsPlanOrCleared}
use Rattle.xg_plan.specs.Plan.{AreOfOneForm}

or_cleared : (sets : List InformationSet) (root : ℕ) (plan : List ℕ) → IsPlan sets root plan
    → IsPlanOrCleared sets root plan
or_cleared sets zero plan is = absurd (omega (arith, is.some_root))
or_cleared sets (suc root) plan is = is

by_root : (sets : List InformationSet) (root : ℕ) (plan : List ℕ) → IsPlan sets root plan
    → IsPlanOrCleared sets (slice_index plan 0) plan
by_root sets root plan is =
    subst (λ n. IsPlanOrCleared sets n plan) (sym is.root_weight) (or_cleared sets root plan is)

-- a plan can be added to itself
pub of_one_form : (sets : List InformationSet) (root : ℕ) (sum plan : List ℕ) → AreInOrder sets → IsPlan sets root plan
    → sum ≡ plan → AreOfOneForm sum plan
of_one_form sets root sum plan order is same =
    record {
      sets = sets;
      order = order;
      first = by_root sets root sum (subst (IsPlan sets root) (sym same) is);
      second = by_root sets root plan is;
    }
