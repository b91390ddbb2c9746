-- What holds of the certificate of a run. Each law is the contract of a function of this crate.
use Rattle.std.specs.Prelude.{◌≡◌, ℕ, ◌*◌, ◌≤◌, List, length, All, Some, Ok}
use Rattle.def_fraction.specs.Fraction.{fraction_of}
use Rattle.def_plan.specs.Form.{AreInOrder, InformationSet, sequence_count}
use Rattle.def_reply.specs.Bracket.{BracketEnds, ends_of}
use Rattle.def_reply.specs.Outcome.{Head}
use Rattle.def_run.specs.Run.{evaluations, outcome}
use Rattle.def_plan.specs.Weighed.{WeighedGame}
use Rattle.def_cert_verdict.specs.Verdict.{head_only, bracket, verdict}
use Rattle.def_cert_verdict.specs.Laws.{IsHeadOf, with_bounds}
use Rattle.def_cert_verdict.specs.Certificate.{PrintedBounds, printed_numbers}
use Rattle.def_plus.specs.declared.Variant.{Variant}
use Rattle.def_plus_run.specs.VariantRun.{outcome_of}
use Rattle.def_tree.specs.Rules.{most_actions}
use Rattle.def_cert_verdict.specs.Ranges.{HeadFits, CertificateFits}
use Rattle.def_cert_accepted.specs.Bounds.{BoundsHold}
use Rattle.def_cert_accepted.specs.OfOutcome.{certificate_of, printed_plan}

-- with the game's head it is accepted: without a round its head alone, else with the bracket whose ends are those of
-- the run's evaluations in payoff units
pub record TheCertificateOfARunIsAccepted : Type 0 where
  pub no_round : (game : WeighedGame) (head : Head) → IsHeadOf game head → head.rounds ≡ 0
      → verdict game (certificate_of game.form (outcome game.form head)) ≡ Ok head_only
  pub some_round : (game : WeighedGame) (head : Head) (ends : BracketEnds)
      → AreInOrder game.form.sets_one → AreInOrder game.form.sets_two → IsHeadOf game head → 1 ≤ game.unit
      → 1 ≤ head.scale
      → ends_of (evaluations game.form head.scale head.every head.rounds) ≡ Some ends
      → verdict game (certificate_of game.form (outcome game.form head))
      ≡ Ok (bracket (fraction_of ends.lower.low (game.unit * (ends.lower.round * head.scale)))
      (fraction_of ends.upper.high (game.unit * (ends.upper.round * head.scale))))

-- and its numbers are within their ranges, where those of the head are and no set has too many actions
abbrev pub TheCertificateOfARunFits : Type 0
TheCertificateOfARunFits = (game : WeighedGame) (head : Head) → AreInOrder game.form.sets_one
    → AreInOrder game.form.sets_two
    → All (λ h. h.actions ≤ most_actions) game.form.sets_one → All (λ h. h.actions ≤ most_actions) game.form.sets_two
    → IsHeadOf game head → HeadFits head → CertificateFits (certificate_of game.form (outcome game.form head))

-- the outcome of a variant's rounds has its bounds in print, and they hold
pub record HasBoundsInPrint (variant : Variant) (game : WeighedGame) (head : Head) : Type 0 where
  pub bounds : PrintedBounds
  pub are : certificate_of game.form (outcome_of variant game.form head) ≡ with_bounds head bounds
  pub hold : BoundsHold game variant head.scale bounds

-- so it is after a round or more, where the head is the game's; and what is printed of a plan has its numbers
pub record OutcomesHaveTheirBounds : Type 0 where
  pub of_rounds : (variant : Variant) (game : WeighedGame) (head : Head) → AreInOrder game.form.sets_one
      → AreInOrder game.form.sets_two → IsHeadOf game head → 1 ≤ game.unit → 1 ≤ head.scale → 1 ≤ head.rounds
      → HasBoundsInPrint variant game head
  pub same_numbers : (sets : List InformationSet) (plan : List ℕ) → length plan ≡ sequence_count sets
      → printed_numbers (printed_plan sets plan) ≡ plan
