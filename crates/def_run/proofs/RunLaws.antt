-- What holds of runs of plain rounds, since it holds of every run that sums plans.
use Rattle.std.proofs.Common.{arith}
use Rattle.std.proofs.Math.Nat.{mul-le-mul}
use Rattle.def_run.specs.Run.{plain_run}
use Rattle.def_run.specs.Laws.{EvaluationsAreBounds, EndsAreOfTheirRounds, RunsHaveEnds, EndsAreInOrder, TraceOfRunNeverWidens, TraceOfRunLooksBack}
use Rattle.def_run.specs.Laws.{GapOfRunIsExploitability, EndsBoundAllPlans, OffersOfRunAreFair, OutcomesShowTheirRun}
use Rattle.def_run.proofs.WeighedEnds.{weighed_evaluations_are_bounds, weighed_ends_are_the_earliest_best, weighed_runs_have_ends}
use Rattle.def_run.proofs.WeighedEnds.{weighed_ends_are_in_order, gap_of_weighed_run_is_exploitability, weighed_ends_bound_all_plans}
use Rattle.def_run.proofs.WeighedEnds.{plain_runs_sum_plans}
use Rattle.def_run.proofs.WeighedTraces.{weighed_trace_never_widens, weighed_trace_looks_back}
use Rattle.def_run.proofs.WeighedOutcomes.{weighed_offers_are_fair, weighed_outcomes_show_their_run}

-- after any round both sums are plans, and their evaluation is an attained floor and an attained ceiling
pub evaluations_are_bounds : EvaluationsAreBounds
evaluations_are_bounds form root round order_one order_two some some_round =
    weighed_evaluations_are_bounds form root (plain_run form root) round order_one order_two
    (plain_runs_sum_plans form root order_one order_two some) some_round

-- each end of a run is the earliest best evaluation, after a round that was evaluated
pub ends_are_of_their_rounds : EndsAreOfTheirRounds
ends_are_of_their_rounds form root every last ends are =
    weighed_ends_are_the_earliest_best form (plain_run form root) every last ends (λ round some. some) are

-- where at least one round is asked, some evaluation stands at each end
pub runs_have_ends : RunsHaveEnds
runs_have_ends form root every last some = weighed_runs_have_ends form (plain_run form root) every last some

-- each over its round, the lower end of a run is at most its upper end
pub ends_are_in_order : EndsAreInOrder
ends_are_in_order form root every last ends order_one order_two some are =
    weighed_ends_are_in_order form root (plain_run form root) every last ends order_one order_two some
    (plain_runs_sum_plans form root order_one order_two some) are

-- in the trace of a run each line's bracket lies within those of the lines before
pub trace_of_run_never_widens : TraceOfRunNeverWidens
trace_of_run_never_widens form root every last j k line le low =
    weighed_trace_never_widens form (plain_run form root) every last j k line (λ round some. some) le low

-- in the trace of a run the ends of a line come from rounds 1 up to its own
pub trace_of_run_looks_back : TraceOfRunLooksBack
trace_of_run_looks_back form root every last = weighed_trace_looks_back form (plain_run form root) every last

-- each over its plan's root, the two ends are apart by the total exploitability of the two plans
pub gap_of_run_is_exploitability : GapOfRunIsExploitability
gap_of_run_is_exploitability form root every last ends order_one order_two some are =
    gap_of_weighed_run_is_exploitability form root (plain_run form root) every last ends order_one order_two
    (plain_runs_sum_plans form root order_one order_two some) are

-- over its root, no plan's floor is above the upper end, and no plan's ceiling below the lower one
pub ends_bound_all_plans : EndsBoundAllPlans
ends_bound_all_plans = record {
  floors = λ form root every last ends plan_root plan_one floor order_one order_two some are is_plan is_floor.
      weighed_ends_bound_all_plans.floors form root (plain_run form root) every last ends plan_root plan_one floor
      order_one order_two (plain_runs_sum_plans form root order_one order_two some) are is_plan is_floor;
  ceilings = λ form root every last ends plan_root plan_two ceiling order_one order_two some are is_plan is_ceiling.
      weighed_ends_bound_all_plans.ceilings form root (plain_run form root) every last ends plan_root plan_two ceiling
      order_one order_two (plain_runs_sum_plans form root order_one order_two some) are is_plan is_ceiling;
}

-- where the sets are in order, and root and round within their limits, the offer is fair behind each earlier round
pub offers_of_run_are_fair : OffersOfRunAreFair
offers_of_run_are_fair form root round order_one order_two some small some_round few last later =
    weighed_offers_are_fair form root (plain_run form root) round
    (plain_runs_sum_plans form root order_one order_two some) some some_round few (omega (arith, few))
    (mul-le-mul few small) last later

-- an outcome has its head, the run's trace and, after a round, both ends with plans and best replies
pub outcomes_show_their_run : OutcomesShowTheirRun
outcomes_show_their_run = record {
  head = λ form head. weighed_outcomes_show_their_run.head form (plain_run form head.scale) head;
  trace = λ form head. weighed_outcomes_show_their_run.trace form (plain_run form head.scale) head;
  no_ends = λ form head none. weighed_outcomes_show_their_run.no_ends form (plain_run form head.scale) head none;
  ends = λ form head ends are.
      weighed_outcomes_show_their_run.ends form (plain_run form head.scale) head ends are;
}
