-- The certificate of a run is accepted in both versions.
use Rattle.std.proofs.Common.{◌≡◌, ℕ, zero, suc, ◌≤◌, Ok, refl, arith}
use Rattle.def_plan.specs.Form.{AreInOrder}
use Rattle.def_plan.specs.Weighed.{WeighedGame}
use Rattle.def_reply.specs.Outcome.{Head}
use Rattle.def_run.specs.Run.{outcome}
use Rattle.def_run.proofs.RunLaws.{runs_have_ends}
use Rattle.def_game_numbers.specs.WholeSums.{HasWholeSum}
use Rattle.def_cert_verdict.specs.Certificate.{Certificate}
use Rattle.def_cert_verdict.specs.Ranges.{CertificateFits, HeadFits}
use Rattle.def_cert_verdict.specs.Verdict.{Verdict, head_only, verdict}
use Rattle.def_cert_verdict.specs.Laws.{IsHeadOf}
use Rattle.def_cert_accepted.specs.OfOutcome.{certificate_of}
use Rattle.def_cert_accepted.proofs.Accepted.{accepted as run_accepted}
use Rattle.def_cert_accepted.proofs.Fits.{fits_always}
use Rattle.def_cert_text.specs.Versions.{VersionedFits, in_version_one}
use Rattle.def_cert_text.specs.CertText.{versioned_text}
use Rattle.def_cert_text.proofs.TextLaws.{versioned_reading}
use Rattle.def_cert_versions.specs.Verdict.{upgraded}
use Rattle.def_cert_versions.specs.Runs.{IsAcceptedInBoth, TheTextsOfARunAreAccepted}
use Rattle.def_cert_versions.proofs.VersionedVerdict.{old_verdicts, upgrades}
use Rattle.def_cert_versions.proofs.Upgrades.{upgradable, upgrades_fit as upgrade_fits}

-- what is accepted and within its ranges is accepted in both versions
in_both : (game : WeighedGame) (c : Certificate) (shown : Verdict) → AreInOrder game.form.sets_one → AreInOrder game.form.sets_two
    → 1 ≤ game.unit → HasWholeSum game → CertificateFits c → verdict game c ≡ Ok shown → IsAcceptedInBoth game c
in_both game c shown one two unit sum fits e =
    let old = (old_verdicts.accepted game c shown).1 e in
    let within : VersionedFits (in_version_one c) = record { certificate = fits; second = refl } in
    let can = upgradable game (in_version_one c) shown one two unit sum within old in
    record {
      shown = shown;
      accepted = e;
      old_text = (versioned_reading (versioned_text (in_version_one c)) (in_version_one c)).1 (within, refl);
      old_verdict = old;
      new_text = (versioned_reading (versioned_text (upgraded (in_version_one c))) (upgraded (in_version_one c))).1
          (upgrade_fits (in_version_one c) within can, refl);
      new_verdict = upgrades.same_verdict game (in_version_one c) shown old;
    }

is_shown : (game : WeighedGame) (head : Head) (n : ℕ) → head.rounds ≡ n → AreInOrder game.form.sets_one → AreInOrder game.form.sets_two
    → IsHeadOf game head → HeadFits head
    → (shown : Verdict) × (verdict game (certificate_of game.form (outcome game.form head)) ≡ Ok shown)
is_shown game head zero rounds one two is fits = (head_only, run_accepted.no_round game head is rounds)
is_shown game head (suc n) rounds one two is fits =
    let ends = runs_have_ends game.form head.scale head.every head.rounds (omega (arith, rounds)) in
    let unit : 1 ≤ game.unit = omega (arith, fits.unit.0, is.unit) in
    (_, run_accepted.some_round game head ends.0 one two is unit fits.scale.0 ends.1)

pub texts_of_a_run : TheTextsOfARunAreAccepted
texts_of_a_run game head one two few_one few_two sum is fits =
    let a = is_shown game head head.rounds refl one two is fits in
    in_both game (certificate_of game.form (outcome game.form head)) a.0 one two (omega (arith, fits.unit.0, is.unit)) sum
    (fits_always game head one two few_one few_two is fits) a.1
