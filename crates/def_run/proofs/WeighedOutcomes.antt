-- The offers and the outcome of a run that sums plans.
use Rattle.std.proofs.Common.{◌≡◌, ℕ, zero, suc, ◌<◌, List, [], ◌∷◌, length, get_or, map, arith, ap, sym, ◌∙◌, refl, Some}
use Rattle.def_plan.specs.Form.{SequenceForm}
use Rattle.def_tree.specs.declared.Player.TheVariants.{One, Two}
use Rattle.def_reply.specs.Reply.{best_reply_to}
use Rattle.def_reply.specs.Bracket.{Evaluation, BracketEnds, ends_of, trace, evaluated_rounds}
use Rattle.def_reply.specs.Offers.{Offer, evaluation_of_offer, KeptEnd, lower_of, upper_of, board_after}
use Rattle.def_reply.specs.OfferLaws.{ComesFrom}
use Rattle.def_reply.proofs.KeptEnds.{offers_are_traced, offers_keep_the_ends}
use Rattle.def_reply.specs.Outcome.{OutcomeEnds}
use Rattle.def_run.specs.Run.{WeighedRun, evaluation_in, offer_in, offers_in, run_end, both_ends, lower_plan_in, upper_plan_in}
use Rattle.def_run.specs.WeighedLaws.{WeighedOffersAreFair, WeighedOutcomesShowTheirRun, HasPlansIn}

-- where round, weight and root are within their limits, the offer is fair behind each earlier round
pub weighed_offers_are_fair : WeighedOffersAreFair
weighed_offers_are_fair form root run round sums some some_round few small_weight small_root last later = record {
  scale = root;
  later = later;
  few_rounds = few;
  some_divisor = sums.some_weight round some_round;
  small_divisor = small_weight;
  some_scale = some;
  small_root = small_root;
  plan_one = sums.of_one round some_round;
  plan_two = sums.of_two round some_round;
  against_one = refl;
  against_two = refl;
}

evaluated : (form : SequenceForm) (run : WeighedRun) (ks : List ℕ)
    → map evaluation_of_offer (map (offer_in form run) ks) ≡ map (evaluation_in form run) ks
evaluated form run [] = refl
evaluated form run (k ∷ ks) = ap (λ rest. evaluation_in form run k ∷ rest) (evaluated form run ks)

offer_at : (form : SequenceForm) (run : WeighedRun) (ks : List ℕ) (place : ℕ) (d : Offer)
    → place < length (map (offer_in form run) ks)
    → (k : ℕ) × (get_or (map (offer_in form run) ks) place d ≡ offer_in form run k)
offer_at form run [] place d below = absurd (omega arith)
offer_at form run (k ∷ ks) zero d below = (k, refl)
offer_at form run (k ∷ ks) (suc place) d below = offer_at form run ks place d (omega arith)

-- an end that comes from an offer of the run has the plan and the reply of its evaluation's round
from_offer : (kept_of : Offer → KeptEnd) (form : SequenceForm) (run : WeighedRun) (ks : List ℕ) (e : Evaluation)
    (kept : KeptEnd) (d : Offer)
    → ComesFrom kept_of (map (offer_in form run) ks) e kept → kept ≡ kept_of (offer_in form run e.round)
from_offer kept_of form run ks e kept d from =
    let at = offer_at form run ks from.place d from.within in
    let same : at.0 ≡ e.round = ap (λ (o : Offer). o.round) (sym at.1) ∙ ap (λ (v : Evaluation). v.round) (from.is_evaluated d) in
    sym (from.is_kept d) ∙ ap kept_of at.1 ∙ ap (λ k. kept_of (offer_in form run k)) same

-- an outcome has its head, the run's trace and, after a round, both ends with plans and best replies
pub weighed_outcomes_show_their_run : WeighedOutcomesShowTheirRun
weighed_outcomes_show_their_run = record {
  head = λ form run head. refl;
  trace = λ form run head. offers_are_traced (offers_in form run head.every head.rounds)
      ∙ ap trace (evaluated form run (evaluated_rounds head.every head.rounds));
  no_ends = λ form run head none. ap (λ n. both_ends (board_after (offers_in form run head.every n)).lower
      (board_after (offers_in form run head.every n)).upper) none;
  ends = λ form run head ends are.
      let ks : List ℕ = evaluated_rounds head.every head.rounds in
      let os : List Offer = offers_in form run head.every head.rounds in
      let d : Offer = offer_in form run 0 in
      let k = offers_keep_the_ends os ends (ap ends_of (evaluated form run ks) ∙ are) in
      let lower = from_offer lower_of form run ks ends.lower k.lower d k.lower_from in
      let upper = from_offer upper_of form run ks ends.upper k.upper d k.upper_from in (
        record { lower = run_end k.lower; upper = run_end k.upper },
        ap (λ l. both_ends l (board_after os).upper) k.lower_is ∙ ap (λ u. both_ends (Some k.lower) u) k.upper_is,
        record {
          lower_plan = ap (λ (e : KeptEnd). e.plan) lower;
          lower_reply = ap (λ (e : KeptEnd). e.reply) lower;
          upper_plan = ap (λ (e : KeptEnd). e.plan) upper;
          upper_reply = ap (λ (e : KeptEnd). e.reply) upper;
        },
      );
}

-- the ends of a run, by the rounds that they come from
abbrev pub ends_at : SequenceForm → WeighedRun → BracketEnds → OutcomeEnds
ends_at form run ends = record {
  lower = record { plan = lower_plan_in run ends; reply = best_reply_to form Two (lower_plan_in run ends) };
  upper = record { plan = upper_plan_in run ends; reply = best_reply_to form One (upper_plan_in run ends) };
}

-- ends with the plans and the replies of these rounds are those ends
pub shown_are : (form : SequenceForm) (run : WeighedRun) (ends : BracketEnds) (shown : OutcomeEnds)
    → HasPlansIn form run ends shown → shown ≡ ends_at form run ends
shown_are form run ends shown h =
    λ i. record {
      lower = record { plan = h.lower_plan i; reply = h.lower_reply i };
      upper = record { plan = h.upper_plan i; reply = h.upper_reply i };
    }
