-- The certificate of a run in both versions.
use Rattle.std.specs.Prelude.{◌≡◌, ◌≤◌, All, Ok}
use Rattle.def_tree.specs.Rules.{most_actions}
use Rattle.def_plan.specs.Form.{AreInOrder}
use Rattle.def_plan.specs.Weighed.{WeighedGame}
use Rattle.def_reply.specs.Outcome.{Head}
use Rattle.def_run.specs.Run.{outcome}
use Rattle.def_game_numbers.specs.WholeSums.{HasWholeSum}
use Rattle.def_cert_verdict.specs.Certificate.{Certificate}
use Rattle.def_cert_verdict.specs.Ranges.{HeadFits}
use Rattle.def_cert_verdict.specs.Verdict.{Verdict, verdict}
use Rattle.def_cert_verdict.specs.Laws.{IsHeadOf}
use Rattle.def_cert_accepted.specs.OfOutcome.{certificate_of}
use Rattle.def_cert_text.specs.Versions.{in_version_one}
use Rattle.def_cert_text.specs.CertText.{versioned_in, versioned_text}
use Rattle.def_cert_versions.specs.Verdict.{upgraded, versioned_verdict}

-- the text of version 1 says the certificate, and the text of version 2 its upgrade, and both have its verdict
pub record IsAcceptedInBoth (game : WeighedGame) (c : Certificate) : Type 0 where
  pub shown : Verdict
  pub accepted : verdict game c ≡ Ok shown
  pub old_text : versioned_in (versioned_text (in_version_one c)) ≡ Ok (in_version_one c)
  pub old_verdict : versioned_verdict game (in_version_one c) ≡ Ok shown
  pub new_text : versioned_in (versioned_text (upgraded (in_version_one c))) ≡ Ok (upgraded (in_version_one c))
  pub new_verdict : versioned_verdict game (upgraded (in_version_one c)) ≡ Ok shown

-- a run's, where the head is the game's and within its ranges, no set has too many actions, and the sum is whole
abbrev pub TheTextsOfARunAreAccepted : Type 0
TheTextsOfARunAreAccepted = (game : WeighedGame) (head : Head) → AreInOrder game.form.sets_one
    → AreInOrder game.form.sets_two
    → All (λ h. h.actions ≤ most_actions) game.form.sets_one → All (λ h. h.actions ≤ most_actions) game.form.sets_two
    → HasWholeSum game → IsHeadOf game head → HeadFits head
    → IsAcceptedInBoth game (certificate_of game.form (outcome game.form head))
