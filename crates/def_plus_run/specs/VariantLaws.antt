-- What holds of the runs of both variants. Each is the contract of a function of this crate.
use Rattle.std.specs.Prelude.{◌≡◌, ℕ, ◌≤◌, ◌<◌}
use Rattle.def_plan.specs.Form.{SequenceForm, AreInOrder}
use Rattle.def_reply.specs.Offers.{IsFair}
use Rattle.def_reply.specs.Outcome.{Head}
use Rattle.def_run.specs.Run.{SumsPlans, offer_in, plain_run, outcome}
use Rattle.def_plus.specs.declared.Variant.{Variant}
use Rattle.def_plus.specs.declared.Variant.TheVariants.{Plain, Plus}
use Rattle.def_plus.specs.Variants.{most_rounds_of, most_scale_of}
use Rattle.def_plus_run.specs.PlusRun.{plus_run, plus_outcome}
use Rattle.def_plus_run.specs.VariantRun.{run_of, outcome_of}

-- they are the run of plain rounds and that of CFR+
pub record VariantsAreBothRuns : Type 0 where
  pub plain : (form : SequenceForm) (root : ℕ) → run_of Plain form root ≡ plain_run form root
  pub plus : (form : SequenceForm) (root : ℕ) → run_of Plus form root ≡ plus_run form root
  pub plain_outcome : (form : SequenceForm) (head : Head) → outcome_of Plain form head ≡ outcome form head
  pub plus_outcome : (form : SequenceForm) (head : Head) → outcome_of Plus form head ≡ plus_outcome form head

-- their sums are plans
abbrev pub VariantRunsSumPlans : Type 0
VariantRunsSumPlans = (variant : Variant) (form : SequenceForm) (root : ℕ) → AreInOrder form.sets_one
    → AreInOrder form.sets_two → 1 ≤ root → SumsPlans form root (run_of variant form root)

-- and within the limits each offer is fair
abbrev pub VariantOffersAreFair : Type 0
VariantOffersAreFair = (variant : Variant) (form : SequenceForm) (root round : ℕ) → AreInOrder form.sets_one
    → AreInOrder form.sets_two → 1 ≤ root → root ≤ most_scale_of variant → 1 ≤ round → round ≤ most_rounds_of variant
    → (last : ℕ) → last < round → IsFair form last (offer_in form (run_of variant form root) round)
