-- The certificate of a run, by its evaluations.
use Rattle.std.proofs.Common.{◌≡◌, ℕ, List, length, Option, Some, None, refl, ap, ◌∙◌}
use Rattle.def_plan.specs.Form.{SequenceForm, sequence_count}
use Rattle.def_plan.specs.Payoff.{mass_of}
use Rattle.def_round.specs.Rounds.{rounds}
use Rattle.def_reply.specs.Bracket.{BracketEnds, ends_of, trace}
use Rattle.def_reply.specs.declared.TraceLine.{TraceLine}
use Rattle.def_reply.specs.Outcome.{Head, OutcomeEnds, Outcome}
use Rattle.def_run.specs.Run.{WeighedRun, plain_run, evaluations, evaluations_in, outcome, outcome_in}
use Rattle.def_run.proofs.RunLaws.{outcomes_show_their_run}
use Rattle.def_run.proofs.WeighedOutcomes.{ends_at, shown_are, weighed_outcomes_show_their_run}
use Rattle.def_cert_verdict.specs.Certificate.{PrintedBounds, Certificate}
use Rattle.def_plan.specs.Weighed.{WeighedGame}
use Rattle.def_cert_verdict.specs.Laws.{IsHeadOf, with_bounds, without_bounds}
use Rattle.def_cert_accepted.specs.OfOutcome.{printed_bounds, certificate_of}

-- ---- a head that is the game's
abbrev pub own_head : WeighedGame → ℕ → ℕ → ℕ → Head
own_head game last every scale = record {
  nodes = game.nodes;
  leaves = length game.form.leaves;
  sets_one = length game.form.sets_one;
  sets_two = length game.form.sets_two;
  sequences_one = sequence_count game.form.sets_one;
  sequences_two = sequence_count game.form.sets_two;
  unit = game.unit;
  sum = game.sum;
  mass = mass_of game.form.leaves;
  rounds = last;
  every = every;
  scale = scale;
}

-- the head that is made from a game is that game's
pub own_head-is : (game : WeighedGame) (last every scale : ℕ) → IsHeadOf game (own_head game last every scale)
own_head-is game last every scale = record {
  nodes = refl;
  leaves = refl;
  sets_one = refl;
  sets_two = refl;
  sequences_one = refl;
  sequences_two = refl;
  unit = refl;
  sum_is = refl;
  mass_is = refl;
}

-- a head that is the game's is the one made from it, with the same rounds and scale
pub same_head : (game : WeighedGame) (head : Head) → IsHeadOf game head
    → head ≡ own_head game head.rounds head.every head.scale
same_head game head h =
    ap (λ n. record head { nodes = n }) h.nodes
    ∙ ap (λ n. record head { nodes = game.nodes; leaves = n }) h.leaves
    ∙ ap (λ n. record head { nodes = game.nodes; leaves = length game.form.leaves; sets_one = n }) h.sets_one
    ∙ ap (λ n. record head { nodes = game.nodes; leaves = length game.form.leaves; sets_one = length game.form.sets_one; sets_two = n }) h.sets_two
    ∙ ap (λ n. record (own_head game head.rounds head.every head.scale) {
      sequences_one = n;
      sequences_two = head.sequences_two;
      unit = head.unit;
      sum = head.sum;
      mass = head.mass;
    }) h.sequences_one
    ∙ ap (λ n. record (own_head game head.rounds head.every head.scale) { sequences_two = n; unit = head.unit; sum = head.sum; mass = head.mass })
    h.sequences_two
    ∙ ap (λ n. record (own_head game head.rounds head.every head.scale) { unit = n; sum = head.sum; mass = head.mass }) h.unit
    ∙ ap (λ f. record (own_head game head.rounds head.every head.scale) { sum = f; mass = head.mass }) h.sum_is
    ∙ ap (λ n. record (own_head game head.rounds head.every head.scale) { mass = n }) h.mass_is

-- the bounds that are printed of the ends of a run
abbrev pub bounds_in : WeighedGame → WeighedRun → ℕ → ℕ → BracketEnds → PrintedBounds
bounds_in game run last every ends =
    printed_bounds game.form game.unit (trace (evaluations_in game.form run every last)) (ends_at game.form run ends)

abbrev pub bounds_of_run : WeighedGame → ℕ → ℕ → ℕ → BracketEnds → PrintedBounds
bounds_of_run game last every scale ends = bounds_in game (plain_run game.form scale) last every ends

made : SequenceForm → Head → List TraceLine → Option OutcomeEnds → Certificate
made form head lines ends = certificate_of form (record { head = head; trace = lines; ends = ends })

made_of : (form : SequenceForm) (o : Outcome) (head : Head) (lines : List TraceLine) (ends : Option OutcomeEnds)
    → o.head ≡ head → o.trace ≡ lines → o.ends ≡ ends
    → certificate_of form o ≡ made form head lines ends
unfolding made
made_of form o head lines ends h l e = ap (λ (g : Head). made form g o.trace o.ends) h ∙ ap (λ (t : List TraceLine). made form head t o.ends) l
    ∙ ap (made form head lines) e

-- where the run has ends, its certificate is the head with the bounds of these ends
pub certificate_in : (game : WeighedGame) (run : WeighedRun) (last every scale : ℕ) (ends : BracketEnds)
    → ends_of (evaluations_in game.form run every last) ≡ Some ends
    → certificate_of game.form (outcome_in game.form run (own_head game last every scale))
    ≡ with_bounds (own_head game last every scale) (bounds_in game run last every ends)
unfolding made
certificate_in game run last every scale ends are =
    let form = game.form in
    let head = own_head game last every scale in
    let shown = weighed_outcomes_show_their_run.ends form run head ends are in
    made_of form (outcome_in form run head) head (trace (evaluations_in form run every last)) (Some (ends_at form run ends))
    (weighed_outcomes_show_their_run.head form run head) (weighed_outcomes_show_their_run.trace form run head)
    (shown.1 ∙ ap Some (shown_are form run ends shown.0 shown.2))

pub certificate_with : (game : WeighedGame) (last every scale : ℕ) (ends : BracketEnds)
    → ends_of (evaluations game.form scale every last) ≡ Some ends
    → certificate_of game.form (outcome game.form (own_head game last every scale))
    ≡ with_bounds (own_head game last every scale) (bounds_of_run game last every scale ends)
certificate_with game last every scale ends are = certificate_in game (plain_run game.form scale) last every scale ends are

-- of a run without a round the certificate is the head alone
pub certificate_without : (game : WeighedGame) (last every scale : ℕ) → last ≡ 0
    → certificate_of game.form (outcome game.form (own_head game last every scale))
    ≡ without_bounds (own_head game last every scale)
unfolding made
certificate_without game last every scale none =
    let form = game.form in
    let head = own_head game last every scale in
    made_of form (outcome form head) head (trace (evaluations form scale every last)) None
    (outcomes_show_their_run.head form head) (outcomes_show_their_run.trace form head) (outcomes_show_their_run.no_ends form head none)
