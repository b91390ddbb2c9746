-- What holds of verdicts on certificates of both versions. Each law is the contract of a function of this crate.
use Rattle.std.specs.Prelude.{◌≡◌, ◌⊎◌, ◌↔◌, ℕ, length, Ok, Err}
use Rattle.def_plan.specs.Form.{sequence_count}
use Rattle.def_plan.specs.Payoff.{mass_of}
use Rattle.def_plan.specs.Weighed.{WeighedGame}
use Rattle.def_reply.specs.Outcome.{Head}
use Rattle.def_cert_verdict.specs.declared.fault.TestFault.{TestFault}
use Rattle.def_cert_verdict.specs.declared.fault.TestFault.TheVariants.{HeadDiffers, SecondDiffers}
use Rattle.def_cert_verdict.specs.Certificate.{Certificate}
use Rattle.def_cert_verdict.specs.Verdict.{Verdict, verdict}
use Rattle.def_cert_verdict.specs.Laws.{IsHeadOf}
use Rattle.def_cert_verdict.specs.FaultCauses.{FaultBelowHead, HeadFault, IsFirstNot}
use Rattle.def_cert_text.specs.Versions.{VersionedCertificate, in_version_one}
use Rattle.def_cert_text.specs.declared.version.TextVersion.{TextVersion}
use Rattle.def_cert_text.specs.declared.version.TextVersion.TheVariants as versions
use Rattle.def_cert_versions.specs.Verdict.{first_trace_line_of, second_of, upgraded, versioned_verdict}

-- ---- acceptance
-- a text of version 2 has the bracket that the sum leaves player two
abbrev pub HasItsSecond : VersionedCertificate → Type 0
HasItsSecond c = c.version ≡ versions.Two → c.second ≡ second_of c.certificate

-- a certificate of either version is accepted exactly where what it says is, and version 2 has its second bracket
abbrev pub VersionsAcceptAlike : Type 0
VersionsAcceptAlike = (game : WeighedGame) (c : VersionedCertificate) (shown : Verdict)
    → (versioned_verdict game c ≡ Ok shown) ↔ ((verdict game c.certificate ≡ Ok shown) × HasItsSecond c)

-- ---- faults
-- a line of version 2, from 1, says what the game is
pub record NamesLineOfTwo (game : WeighedGame) (head : Head) (line : ℕ) : Type 0 where
  pub nodes : line ≡ 2 → (head.nodes ≡ game.nodes) × (head.leaves ≡ length game.form.leaves)
  pub sets : line ≡ 3 → (head.sets_one ≡ length game.form.sets_one) × (head.sets_two ≡ length game.form.sets_two)
  pub sequences : line ≡ 4
      → (head.sequences_one ≡ sequence_count game.form.sets_one)
      × (head.sequences_two ≡ sequence_count game.form.sets_two)
  pub unit : line ≡ 5 → head.unit ≡ game.unit
  pub mass_is : line ≡ 6 → head.mass ≡ mass_of game.form.leaves
  pub sum_is : line ≡ 7 → head.sum ≡ game.sum

abbrev pub HeadFaultOfTwo : WeighedGame → Head → TestFault → Type 0
HeadFaultOfTwo game head (HeadDiffers line) = IsFirstNot (NamesLineOfTwo game head) line
HeadFaultOfTwo game head fault = ⊥

abbrev pub HeadFaultOf : TextVersion → WeighedGame → Head → TestFault → Type 0
HeadFaultOf versions.One game head fault = HeadFault game head fault
HeadFaultOf versions.Two game head fault = HeadFaultOfTwo game head fault

-- in the head, or where that is the game's below it
abbrev pub TestFaultOf : TextVersion → WeighedGame → Certificate → TestFault → Type 0
TestFaultOf v game c fault =
    HeadFaultOf v game c.head fault
    ⊎ (IsHeadOf game c.head × FaultBelowHead game (first_trace_line_of v) c.head.scale c.bounds fault)

-- all tests pass, and the second bracket of version 2 isn't what the sum leaves
pub record IsSecondFault (game : WeighedGame) (c : VersionedCertificate) (fault : TestFault) : Type 0 where
  pub is : fault ≡ SecondDiffers
  pub of_two : c.version ≡ versions.Two
  pub shown : Verdict
  pub passes : verdict game c.certificate ≡ Ok shown
  pub differs : ¬ (c.second ≡ second_of c.certificate)

-- a certificate is refused with a test's fault exactly where it comes by the lines of its version, and because of its
-- second bracket exactly where all tests pass before it
abbrev pub EachVersionedFaultHasItsCause : Type 0
EachVersionedFaultHasItsCause = (game : WeighedGame) (c : VersionedCertificate) (fault : TestFault)
    → (versioned_verdict game c ≡ Err fault) ↔ (TestFaultOf c.version game c.certificate fault
    ⊎ IsSecondFault game c fault)

-- ---- upgrades
-- an upgrade is of version 2 and says the same; what is accepted is accepted as an upgrade with the same verdict, and
-- what is of version 2 is its own upgrade
pub record UpgradesAreAccepted : Type 0 where
  pub of_two : (c : VersionedCertificate) → (upgraded c).version ≡ versions.Two
  pub same : (c : VersionedCertificate) → (upgraded c).certificate ≡ c.certificate
  pub same_verdict : (game : WeighedGame) (c : VersionedCertificate) (shown : Verdict)
      → versioned_verdict game c ≡ Ok shown → versioned_verdict game (upgraded c) ≡ Ok shown
  pub itself : (game : WeighedGame) (c : VersionedCertificate) (shown : Verdict)
      → versioned_verdict game c ≡ Ok shown → c.version ≡ versions.Two → upgraded c ≡ c

-- in a text of version 1 a certificate has the verdict on what it says
pub record OldVerdictsStay : Type 0 where
  pub accepted : (game : WeighedGame) (c : Certificate) (shown : Verdict)
      → (versioned_verdict game (in_version_one c) ≡ Ok shown) ↔ (verdict game c ≡ Ok shown)
  pub refused : (game : WeighedGame) (c : Certificate) (fault : TestFault)
      → (versioned_verdict game (in_version_one c) ≡ Err fault) ↔ (verdict game c ≡ Err fault)
