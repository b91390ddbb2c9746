-- The run of each variant of rounds, as one that sums plans.
use Rattle.std.specs.Prelude.{ℕ}
use Rattle.def_plan.specs.Form.{SequenceForm}
use Rattle.def_reply.specs.Outcome.{Head, Outcome}
use Rattle.def_run.specs.Run.{WeighedRun, outcome_in}
use Rattle.def_plus.specs.declared.Variant.{Variant}
use Rattle.def_plus.specs.Variants.{rounds_of, weight_of_rounds}

abbrev pub run_of : Variant → SequenceForm → ℕ → WeighedRun
run_of variant form root = record {
  weight = λ round. weight_of_rounds variant round;
  sum_one = λ round. (rounds_of variant form root round).sum_one;
  sum_two = λ round. (rounds_of variant form root round).sum_two;
}

-- what it leaves
abbrev pub outcome_of : Variant → SequenceForm → Head → Outcome
outcome_of variant form head = outcome_in form (run_of variant form head.scale) head
