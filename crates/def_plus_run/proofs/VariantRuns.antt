-- The runs of both variants.
use Rattle.std.proofs.Common.{◌≤◌, arith, refl}
use Rattle.std.proofs.Math.Nat.{mul-le-mul}
use Rattle.def_plus.specs.declared.Variant.TheVariants.{Plain, Plus}
use Rattle.def_plus.specs.Weights.{total_weight}
use Rattle.def_plus.proofs.WeightLaws.{weights_rise}
use Rattle.def_run.proofs.RunLaws.{offers_of_run_are_fair}
use Rattle.def_run.proofs.WeighedEnds.{plain_runs_sum_plans}
use Rattle.def_run.proofs.WeighedOutcomes.{weighed_offers_are_fair}
use Rattle.def_plus_run.specs.PlusRun.{plus_run}
use Rattle.def_plus_run.specs.VariantLaws.{VariantsAreBothRuns, VariantRunsSumPlans, VariantOffersAreFair}
use Rattle.def_plus_run.proofs.PlusRuns.{plus_runs_sum_plans}

-- by their definitions
pub variants_are_both_runs : VariantsAreBothRuns
variants_are_both_runs = record {
  plain = λ form root. refl;
  plus = λ form root. refl;
  plain_outcome = λ form head. refl;
  plus_outcome = λ form head. refl;
}

-- both sum plans
pub variant_runs_sum_plans : VariantRunsSumPlans
variant_runs_sum_plans Plain form root order_one order_two some = plain_runs_sum_plans form root order_one order_two some
variant_runs_sum_plans Plus form root order_one order_two some = plus_runs_sum_plans form root order_one order_two some

-- and their offers are fair
pub variant_offers_are_fair : VariantOffersAreFair
variant_offers_are_fair Plain form root round order_one order_two some small some_round few last later =
    offers_of_run_are_fair form root round order_one order_two some small some_round few last later
variant_offers_are_fair Plus form root round order_one order_two some small some_round few last later =
    let weight : total_weight round ≤ 2098176 = weights_rise round 2048 few in
    weighed_offers_are_fair form root (plus_run form root) round (plus_runs_sum_plans form root order_one order_two some) some some_round
    (omega (arith, few)) (omega (arith, weight)) (omega (arith, mul-le-mul weight small)) last later
