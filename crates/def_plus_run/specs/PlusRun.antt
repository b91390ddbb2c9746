-- A run of CFR+ (Tammelin 2014): its sums weigh round k by k, so their bounds are divided by 1 + 2 + .. + n.
use Rattle.std.specs.Prelude.{ℕ, List}
use Rattle.def_plan.specs.Form.{SequenceForm}
use Rattle.def_reply.specs.Bracket.{Evaluation}
use Rattle.def_reply.specs.Offers.{Offer}
use Rattle.def_reply.specs.Outcome.{Head, Outcome}
use Rattle.def_plus.specs.Weights.{total_weight}
use Rattle.def_plus.specs.PlusRounds.{plus_rounds}
use Rattle.def_run.specs.Run.{WeighedRun, evaluation_in, evaluations_in, offer_in, outcome_in}

abbrev pub plus_run : SequenceForm → ℕ → WeighedRun
plus_run form root = record {
  weight = total_weight;
  sum_one = λ round. (plus_rounds form root round).sum_one;
  sum_two = λ round. (plus_rounds form root round).sum_two;
}

-- the evaluation after some rounds with plans of a root, and all evaluations of a run
abbrev pub plus_evaluation : SequenceForm → ℕ → ℕ → Evaluation
plus_evaluation form root round = evaluation_in form (plus_run form root) round

abbrev pub plus_evaluations : SequenceForm → ℕ → ℕ → ℕ → List Evaluation
plus_evaluations form root every last = evaluations_in form (plus_run form root) every last

abbrev pub plus_offer : SequenceForm → ℕ → ℕ → Offer
plus_offer form root round = offer_in form (plus_run form root) round

-- the outcome of a run
abbrev pub plus_outcome : SequenceForm → Head → Outcome
plus_outcome form head = outcome_in form (plus_run form head.scale) head
