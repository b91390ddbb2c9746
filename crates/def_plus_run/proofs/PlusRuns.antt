-- Runs of CFR+ are runs that sum plans.
use Rattle.std.proofs.Common.{ℕ, ◌*◌, ◌^◌, ◌≤◌, ◌<◌, List, arith}
use Rattle.std.specs.Prelude.{ℤ, pos, ◌*ℤ◌, unsigned_abs}
use Rattle.std.proofs.Math.Nat.{mul-le-mul}
use Rattle.std.proofs.lemmas.Int.{unsigned_abs-mul}
use Rattle.def_tree.specs.declared.Player.{Player}
use Rattle.def_tree.specs.declared.Player.TheVariants.{One, Two}
use Rattle.def_plan.specs.Form.{SequenceForm, InformationSet, AreInOrder, player_sets}
use Rattle.def_plan.specs.Plan.{IsPlan}
use Rattle.def_plan.specs.Payoff.{leaf_sum, mass_of}
use Rattle.def_plan.proofs.SizeLaws.{leaf_sums-below}
use Rattle.def_reply.proofs.ReplySizes.{total-below}
use Rattle.def_run.specs.Run.{total_against}
use Rattle.def_plus.specs.Weights.{total_weight}
use Rattle.def_plus.specs.PlusRounds.{plus_rounds}
use Rattle.def_plus.proofs.WeightLaws.{weights_rise}
use Rattle.def_plus.proofs.PlusSums.{plus_rounds_sum_to_plans}
use Rattle.def_plus_run.specs.PlusRun.{plus_run}
use Rattle.def_plus_run.specs.PlusLaws.{PlusRunsSumPlans, PlusBoundsAreSmall, PlusOffersAreFair, PlusRunsHaveBrackets}
use Rattle.def_run.proofs.WeighedEnds.{weighed_ends_are_the_earliest_best, weighed_ends_are_bounds, weighed_ends_are_in_order}
use Rattle.def_run.proofs.WeighedTraces.{weighed_trace_never_widens}
use Rattle.def_run.proofs.WeighedOutcomes.{weighed_offers_are_fair}

-- a run of CFR+ is one in which round k weighs k
pub plus_runs_sum_plans : PlusRunsSumPlans
plus_runs_sum_plans form root order_one order_two some = record {
  some_weight = λ round some_round. weights_rise 1 round some_round;
  of_one = λ round some_round. (plus_rounds_sum_to_plans form root round order_one order_two some some_round).of_one;
  of_two = λ round some_round. (plus_rounds_sum_to_plans form root round order_one order_two some some_round).of_two;
}

-- the total of the best reply to a plan is at most the mass times the plan's root
small_total : (form : SequenceForm) (player : Player) (against_sets : List InformationSet) (root : ℕ) (plan : List ℕ)
    → AreInOrder (player_sets form player) → AreInOrder against_sets → IsPlan against_sets root plan
    → unsigned_abs (total_against form player plan) ≤ mass_of form.leaves * root
small_total form player against_sets root plan order against_order is =
    omega (
      arith,
      total-below player (leaf_sum player form.leaves plan) (player_sets form player) order,
      leaf_sums-below player form.leaves (player_sets form player) against_sets root plan against_order is,
    )

small_product : (mass weight root other : ℕ) (bound : ℤ) → unsigned_abs bound ≤ mass * (weight * root) → mass ≤ 2 ^ 62
    → weight ≤ 2098176 → root ≤ 16384 → other ≤ 2098176 → unsigned_abs (bound *ℤ pos other) < 2 ^ 119
small_product mass weight root other bound small mass_small weight_small root_small other_small =
    let root_of_sum : weight * root ≤ 2098176 * 16384 = mul-le-mul weight_small root_small in
    let most : mass * (weight * root) ≤ 2 ^ 62 * (2098176 * 16384) = mul-le-mul mass_small root_of_sum in
    let product : unsigned_abs bound * other ≤ 2 ^ 62 * (2098176 * 16384) * 2098176 = mul-le-mul (at_most small most) other_small in
    omega (arith, unsigned_abs-mul bound (pos other), product)
  where
    at_most : {a b c : ℕ} → a ≤ b → b ≤ c → a ≤ c
    at_most h k = omega arith

-- within the limits the bounds of CFR+ have room, and their products too
pub plus_bounds_are_small : PlusBoundsAreSmall
plus_bounds_are_small form root round other order_one order_two some some_round limits few =
    let sums = plus_rounds_sum_to_plans form root round order_one order_two some some_round in
    let low = small_total form Two form.sets_one (total_weight round * root) (plus_rounds form root round).sum_one order_two order_one sums.of_one in
    let high = small_total form One form.sets_two (total_weight round * root) (plus_rounds form root round).sum_two order_one order_two sums.of_two in
    let weight : total_weight round ≤ 2098176 = weights_rise round 2048 limits.few_rounds in
    let other_weight : total_weight other ≤ 2098176 = weights_rise other 2048 few in
    record {
      low = low;
      high = high;
      low_product = small_product (mass_of form.leaves) (total_weight round) root (total_weight other)
          (total_against form Two (plus_rounds form root round).sum_one) low limits.small_mass weight limits.small_root other_weight;
      high_product = small_product (mass_of form.leaves) (total_weight round) root (total_weight other)
          (total_against form One (plus_rounds form root round).sum_two) high limits.small_mass weight limits.small_root other_weight;
    }

-- and its offers are fair
pub plus_offers_are_fair : PlusOffersAreFair
plus_offers_are_fair form root round order_one order_two some some_round limits last later =
    let weight : total_weight round ≤ 2098176 = weights_rise round 2048 limits.few_rounds in
    weighed_offers_are_fair form root (plus_run form root) round (plus_runs_sum_plans form root order_one order_two some) some some_round
    (omega (arith, limits.few_rounds)) (omega (arith, weight)) (omega (arith, mul-le-mul weight limits.small_root)) last later

-- its ends are the earliest best, attained and in order, and its trace never widens
pub plus_runs_have_brackets : PlusRunsHaveBrackets
plus_runs_have_brackets form root every last ends order_one order_two some are =
    let sums = plus_runs_sum_plans form root order_one order_two some in
    record {
      best = weighed_ends_are_the_earliest_best form (plus_run form root) every last ends sums.some_weight are;
      bounds = weighed_ends_are_bounds form root (plus_run form root) every last ends order_one order_two sums are;
      in_order = weighed_ends_are_in_order form root (plus_run form root) every last ends order_one order_two some sums are;
      narrows = λ j k line le low. weighed_trace_never_widens form (plus_run form root) every last j k line sums.some_weight le low;
    }
