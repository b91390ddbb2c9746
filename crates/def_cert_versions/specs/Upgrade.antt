-- Upgrading within the ranges: what it needs of a certificate, and that what is accepted has it.
--     IsUpgradable c    what the second bracket of the upgrade needs to be within its ranges
use Rattle.std.specs.Prelude.{◌≡◌, ℕ, ◌*◌, ◌≤◌, List, Option, Some, None, Ok}
use Rattle.std.specs.Int.{◌∣◌}
use Rattle.def_fraction.specs.Fraction.{Fraction}
use Rattle.def_file.specs.Content.{GameFile}
use Rattle.def_game_numbers.specs.Faultless.{IsFaultless}
use Rattle.def_game_numbers.specs.Weighed.{weighed_game}
use Rattle.def_game_numbers.specs.WholeSums.{HasWholeSum, IsSmallTimes, IsWholeIn}
use Rattle.def_plan.specs.Form.{AreInOrder}
use Rattle.def_plan.specs.Weighed.{WeighedGame}
use Rattle.def_cert_verdict.specs.Certificate.{PrintedBounds}
use Rattle.def_cert_verdict.specs.Verdict.{Verdict}
use Rattle.def_cert_text.specs.Versions.{VersionedCertificate, VersionedFits}
use Rattle.def_cert_text.specs.declared.version.TextVersion.TheVariants as versions
use Rattle.def_cert_text.specs.CertText.{versioned_in, versioned_text}
use Rattle.def_cert_versions.specs.Verdict.{upgraded, versioned_verdict}
use Rattle.def_cert_versions.specs.Laws.{HasItsSecond}

-- ---- the certificate: an end of the bracket over the unit and its plan's root
pub record EndTurns (unit root : ℕ) (end : Fraction) : Type 0 where
  pub whole : end.den ∣ unit * root
  pub small : IsSmallTimes unit end

abbrev pub EndsTurn : ℕ → Option PrintedBounds → Type 0
EndsTurn unit None = Unit {0}
EndsTurn unit (Some b) = EndTurns unit b.plan_one.root b.low × EndTurns unit b.plan_two.root b.high

pub record IsUpgradable (c : VersionedCertificate) : Type 0 where
  pub sum_is : IsWholeIn c.certificate.head.unit c.certificate.head.sum
  pub ends : EndsTurn c.certificate.head.unit c.certificate.bounds
  pub second : HasItsSecond c

-- a certificate within its ranges that is accepted is upgradable
abbrev pub AcceptedAreUpgradable : Type 0
AcceptedAreUpgradable = (game : WeighedGame) (c : VersionedCertificate) (shown : Verdict)
    → AreInOrder game.form.sets_one
    → AreInOrder game.form.sets_two → 1 ≤ game.unit → HasWholeSum game → VersionedFits c
    → versioned_verdict game c ≡ Ok shown → IsUpgradable c

-- and the upgrade of one that is upgradable is within its ranges
abbrev pub UpgradesFit : Type 0
UpgradesFit = (c : VersionedCertificate) → VersionedFits c → IsUpgradable c → VersionedFits (upgraded c)

-- ---- texts
-- the upgrade's text says the upgrade, which is accepted with the same verdict; that of version 2 is the same text
pub record IsUpgradedText (game : GameFile) (bytes : List ℕ) (c : VersionedCertificate) (shown : Verdict) : Type 0 where
  pub read : versioned_in (versioned_text (upgraded c)) ≡ Ok (upgraded c)
  pub accepted : versioned_verdict (weighed_game game) (upgraded c) ≡ Ok shown
  pub itself : c.version ≡ versions.Two → versioned_text (upgraded c) ≡ bytes

-- of a text that is accepted for a file's game
abbrev pub UpgradedTextsAreAccepted : Type 0
UpgradedTextsAreAccepted = (game : GameFile) (bytes : List ℕ) (c : VersionedCertificate) (shown : Verdict)
    → IsFaultless game
    → versioned_in bytes ≡ Ok c → versioned_verdict (weighed_game game) c ≡ Ok shown → IsUpgradedText game bytes c shown
