-- A run: rounds that sum both players' plans, and its evaluations: after an evaluated round both sums of plans are met
-- by best replies, whose totals are the floor and the ceiling of the average strategies.
-- A run is told by its sums and by what its rounds weigh, whatever makes the plans; plain rounds weigh 1 each.
--     reply_to, total_against     a player's best reply to a plan, and its total
--     WeighedRun, SumsPlans       a run, and that its sums are plans
--     evaluation_in, offer_in     what a run's sums are worth after a round, and what is offered to the bracket
--     outcome_in form run head    what the run leaves
--     plain_run form root         the run of plain rounds; evaluation, offer_after, outcome, .. are the same of it
use Rattle.std.specs.Prelude.{ℕ, ◌*◌, ◌≤◌, ℤ, List, map, Option, Some, None}
use Rattle.def_tree.specs.declared.Player.{Player}
use Rattle.def_tree.specs.declared.Player.TheVariants.{One, Two}
use Rattle.def_plan.specs.Form.{SequenceForm, player_sets}
use Rattle.def_plan.specs.Plan.{IsPlan}
use Rattle.def_plan.specs.Payoff.{leaf_sum}
use Rattle.def_reply.specs.Reply.{SetReply, best_reply, total, best_reply_to}
use Rattle.def_reply.specs.Bracket.{Evaluation, BracketEnds, evaluated_rounds}
use Rattle.def_reply.specs.Offers.{Offer, KeptEnd, Board, board_after}
use Rattle.def_reply.specs.Outcome.{Head, End, OutcomeEnds, Outcome}
use Rattle.def_round.specs.Rounds.{rounds}

-- a player's best reply to a plan of the other player, and its total
abbrev pub reply_to : SequenceForm → Player → List ℕ → List SetReply
reply_to form player plan = best_reply player (leaf_sum player form.leaves plan) (player_sets form player)

abbrev pub total_against : SequenceForm → Player → List ℕ → ℤ
total_against form player plan = total (leaf_sum player form.leaves plan) (player_sets form player)
    (reply_to form player plan)

-- ---- runs

-- what the rounds up to each one weigh together, and the sums of both players' plans after it
pub record WeighedRun : Type 0 where
  pub weight : ℕ → ℕ
  pub sum_one : ℕ → List ℕ
  pub sum_two : ℕ → List ℕ

-- rounds weigh something
abbrev pub HasWeights : WeighedRun → Type 0
HasWeights run = (round : ℕ) → 1 ≤ round → 1 ≤ run.weight round

-- after each round the sums are plans, of a root times what the rounds weigh
pub record SumsPlans (form : SequenceForm) (root : ℕ) (run : WeighedRun) : Type 0 where
  pub some_weight : HasWeights run
  pub of_one : (round : ℕ) → 1 ≤ round → IsPlan form.sets_one (run.weight round * root) (run.sum_one round)
  pub of_two : (round : ℕ) → 1 ≤ round → IsPlan form.sets_two (run.weight round * root) (run.sum_two round)

-- the evaluation after a round, and all evaluations
abbrev pub evaluation_in : SequenceForm → WeighedRun → ℕ → Evaluation
evaluation_in form run round = record {
  round = round;
  divisor = run.weight round;
  low = total_against form Two (run.sum_one round);
  high = total_against form One (run.sum_two round);
}

abbrev pub evaluations_in : SequenceForm → WeighedRun → ℕ → ℕ → List Evaluation
evaluations_in form run every last = map (evaluation_in form run) (evaluated_rounds every last)

-- what is offered to the bracket after a round: both sums, with the best replies to them
abbrev pub offer_in : SequenceForm → WeighedRun → ℕ → Offer
offer_in form run round = record {
  round = round;
  divisor = run.weight round;
  plan_one = run.sum_one round;
  plan_two = run.sum_two round;
  against_one = best_reply_to form Two (run.sum_one round);
  against_two = best_reply_to form One (run.sum_two round);
}

abbrev pub offers_in : SequenceForm → WeighedRun → ℕ → ℕ → List Offer
offers_in form run every last = map (offer_in form run) (evaluated_rounds every last)

-- the outcome of a run: its head, the trace, and the two ends with their plans and replies
abbrev pub run_end : KeptEnd → End
run_end kept = record { plan = kept.plan; reply = kept.reply }

abbrev pub both_ends : Option KeptEnd → Option KeptEnd → Option OutcomeEnds
both_ends (Some lower) (Some upper) = Some (record { lower = run_end lower; upper = run_end upper })
both_ends (Some lower) None = None
both_ends None upper = None

abbrev pub outcome_with : Head → Board → Outcome
outcome_with head board = record { head = head; trace = board.trace; ends = both_ends board.lower board.upper }

abbrev pub outcome_in : SequenceForm → WeighedRun → Head → Outcome
outcome_in form run head = outcome_with head (board_after (offers_in form run head.every head.rounds))

-- the plans at the two ends
abbrev pub lower_plan_in : WeighedRun → BracketEnds → List ℕ
lower_plan_in run ends = run.sum_one ends.lower.round

abbrev pub upper_plan_in : WeighedRun → BracketEnds → List ℕ
upper_plan_in run ends = run.sum_two ends.upper.round

-- ---- plain rounds with plans of a root
abbrev pub plain_run : SequenceForm → ℕ → WeighedRun
plain_run form root = record {
  weight = λ round. round;
  sum_one = λ round. (rounds form root round).sum_one;
  sum_two = λ round. (rounds form root round).sum_two;
}

abbrev pub evaluation : SequenceForm → ℕ → ℕ → Evaluation
evaluation form root round = evaluation_in form (plain_run form root) round

abbrev pub evaluations : SequenceForm → ℕ → ℕ → ℕ → List Evaluation
evaluations form root every last = evaluations_in form (plain_run form root) every last

abbrev pub offer_after : SequenceForm → ℕ → ℕ → Offer
offer_after form root round = offer_in form (plain_run form root) round

abbrev pub offers : SequenceForm → ℕ → ℕ → ℕ → List Offer
offers form root every last = offers_in form (plain_run form root) every last

abbrev pub outcome : SequenceForm → Head → Outcome
outcome form head = outcome_in form (plain_run form head.scale) head
