-- What holds of an accepted certificate. Each law is the contract of a function of this crate.
use Rattle.std.specs.Prelude.{◌≡◌, ◌≢◌, ◌↔◌, ℕ, ◌≤◌, List, length, Result, Ok, Err}
use Rattle.def_file.specs.declared.FileFault.TheVariants.{TooLong}
use Rattle.def_file.specs.Reading.{most_bytes}
use Rattle.def_plan.specs.Form.{AreInOrder}
use Rattle.def_plan.specs.Weighed.{WeighedGame}
use Rattle.def_cert_verdict.specs.Verdict.{Verdict, head_only}
use Rattle.def_cert_text.specs.Versions.{VersionedCertificate, VersionedFits}
use Rattle.def_cert_text.specs.CertText.{versioned_text}
use Rattle.def_cert_versions.specs.Verdict.{versioned_verdict}
use Rattle.def_check.specs.Check.{Refusal, checked, of_file}
use Rattle.def_check.specs.Checking.{Checks}
use Rattle.def_check.specs.Shown.{Shows, ShowsOfFile}

-- what the verdict says is shown
abbrev pub WhatIsAcceptedIsShown : Type 0
WhatIsAcceptedIsShown = (game : WeighedGame) (c : VersionedCertificate) (shown : Verdict)
    → AreInOrder game.form.sets_one → AreInOrder game.form.sets_two → 1 ≤ game.unit → VersionedFits c
    → versioned_verdict game c ≡ Ok shown → Shows game (versioned_text c) shown

-- it is the head alone exactly where the certificate that the text says has no round
abbrev pub HeadAloneExactlyWithoutRounds : Type 0
HeadAloneExactlyWithoutRounds = (game : WeighedGame) (c : VersionedCertificate) (shown : Verdict) → VersionedFits c
    → versioned_verdict game c ≡ Ok shown → (d : VersionedCertificate) → VersionedFits d
    → versioned_text c ≡ versioned_text d → (shown ≡ head_only) ↔ (d.certificate.head.rounds ≡ 0)

-- of a file that isn't too long, what is computed of the bytes is what the words say
abbrev pub ChecksAreComputed : Type 0
ChecksAreComputed = (file bytes : List ℕ) → length file ≤ most_bytes → (answer : Result Verdict Refusal)
    → Checks file bytes answer ↔ (checked file bytes ≡ answer)

-- and what is accepted is shown of the file's game
abbrev pub AcceptedChecksAreShown : Type 0
AcceptedChecksAreShown = (file bytes : List ℕ) (shown : Verdict) → length file ≤ most_bytes
    → checked file bytes ≡ Ok shown → ShowsOfFile file bytes shown

-- bytes of any length are checked: that the file is too long is said by its length alone
abbrev pub NoBytesAreTooLong : Type 0
NoBytesAreTooLong = (file bytes : List ℕ) → checked file bytes ≢ Err (of_file TooLong)
