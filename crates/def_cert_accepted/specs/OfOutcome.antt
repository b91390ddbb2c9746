-- The certificate of an outcome: its head and its trace, the plans at both ends of the bracket set by set, the replies
-- to them, and the bracket.
use Rattle.std.specs.Prelude.{ℕ, ◌*◌, List, [], ◌∷◌, take, drop, slice_index}
use Rattle.std.specs.Option.{option_map}
use Rattle.def_fraction.specs.Fraction.{Fraction, fraction_of}
use Rattle.def_plan.specs.Form.{InformationSet, SequenceForm}
use Rattle.def_reply.specs.declared.TraceLine.{TraceLine}
use Rattle.def_reply.specs.Outcome.{End, OutcomeEnds, Outcome}
use Rattle.def_cert_verdict.specs.Certificate.{PrintedPlan, PrintedBounds, Certificate}

-- the numbers of the sequences that end at sets, set by set
abbrev pub by_sets : List InformationSet → List ℕ → List (List ℕ)
by_sets [] xs = []
by_sets (h ∷ hs) xs = take h.actions xs ∷ by_sets hs (drop h.actions xs)

abbrev pub printed_plan : List InformationSet → List ℕ → PrintedPlan
printed_plan sets plan = record { root = slice_index plan 0; weights = by_sets sets (drop 1 plan) }

-- a bound in payoff units: the total of the reply to a plan over the unit times the plan's root
abbrev pub printed_bound : ℕ → End → Fraction
printed_bound unit end = fraction_of end.reply.total (unit * slice_index end.plan 0)

abbrev pub printed_bounds : SequenceForm → ℕ → List TraceLine → OutcomeEnds → PrintedBounds
printed_bounds form unit lines ends = record {
  trace = lines;
  plan_one = printed_plan form.sets_one ends.lower.plan;
  reply_two = ends.lower.reply;
  plan_two = printed_plan form.sets_two ends.upper.plan;
  reply_one = ends.upper.reply;
  low = printed_bound unit ends.lower;
  high = printed_bound unit ends.upper;
}

-- without ends there are no bounds
abbrev pub certificate_of : SequenceForm → Outcome → Certificate
certificate_of form outcome = record {
  head = outcome.head;
  bounds = option_map (printed_bounds form outcome.head.unit outcome.trace) outcome.ends;
}
