-- What checking answers, memory apart.
use Rattle.std.specs.Prelude.{◌≡◌, ◌↔◌, ℕ, ⊤, List, None, Result, Ok, Err}
use Rattle.def_check.specs.Check.{Refusal, of_file, of_certificate, of_tests}
use Rattle.def_game_numbers.specs.Weighed.{weighed_game}
use Rattle.def_file.specs.Content.{GameFile}
use Rattle.def_file_form.specs.Laws.{StandsFor}
use Rattle.def_game_numbers.specs.Numbers.{game_file_fault}
use Rattle.def_cert_text.specs.Versions.{VersionedCertificate, VersionedFits}
use Rattle.def_cert_text.specs.CertText.{versioned_text}
use Rattle.def_cert_verdict.specs.Verdict as shown
use Rattle.def_plan.specs.Weighed.{WeighedGame}
use Rattle.def_cert_verdict.specs.declared.fault.TestFault.{TestFault}
use Rattle.def_cert_verdict.specs.declared.fault.TestFault.TheVariants as test
use Rattle.xg_check.specs.declared.verdict.Accepted.{Accepted}
use Rattle.xg_check.specs.declared.verdict.Verdict.{Verdict}
use Rattle.xg_check.specs.declared.verdict.Verdict.TheVariants.{Bounds, HeadOnly}
use Rattle.xg_check.specs.declared.verdict.CheckFault.{CheckFault}
use Rattle.xg_check.specs.declared.verdict.CheckFault.TheVariants.{File, Cert, HeadDiffers, NoMemory, NotAPlan}
use Rattle.xg_check.specs.declared.verdict.CheckFault.TheVariants.{ReplyNotTight, SecondDiffers, TotalDiffers}
use Rattle.xg_check.specs.declared.verdict.CheckFault.TheVariants.{TraceWidens, ValueTooGood}

abbrev pub verdict_of : Verdict → shown.Verdict
verdict_of (Bounds low high) = shown.bracket low high
verdict_of HeadOnly = shown.head_only

abbrev pub AnswersVerdict : Result Verdict CheckFault → Result shown.Verdict Refusal → Type 0
AnswersVerdict (Ok verdict) checked = checked ≡ Ok (verdict_of verdict)
AnswersVerdict (Err (File fault)) checked = checked ≡ Err (of_file fault)
AnswersVerdict (Err (Cert fault)) checked = checked ≡ Err (of_certificate fault)
AnswersVerdict (Err (HeadDiffers line)) checked = checked ≡ Err (of_tests (test.HeadDiffers line))
AnswersVerdict (Err (NotAPlan player set)) checked = checked ≡ Err (of_tests (test.NotAPlan player set))
AnswersVerdict (Err (ValueTooGood player set action)) checked = checked
    ≡ Err (of_tests (test.ValueTooGood player set action))
AnswersVerdict (Err (ReplyNotTight player set)) checked = checked ≡ Err (of_tests (test.ReplyNotTight player set))
AnswersVerdict (Err (TotalDiffers end)) checked = checked ≡ Err (of_tests (test.TotalDiffers end))
AnswersVerdict (Err (TraceWidens line)) checked = checked ≡ Err (of_tests (test.TraceWidens line))
AnswersVerdict (Err SecondDiffers) checked = checked ≡ Err (of_tests test.SecondDiffers)
AnswersVerdict (Err NoMemory) checked = ⊤

-- the verdict of what is accepted
abbrev pub verdict_in : Result Accepted CheckFault → Result Verdict CheckFault
verdict_in (Ok accepted) = Ok accepted.verdict
verdict_in (Err fault) = Err fault

-- the check's fault is that of a test
abbrev pub IsThatFault : TestFault → CheckFault → Type 0
IsThatFault test fault =
    (checked : Result shown.Verdict Refusal) → checked ≡ Err (of_tests test) → AnswersVerdict (Err fault) checked

-- the head alone is answered exactly where the certificate that the bytes say has no round
abbrev pub IsHeadOnlyWithoutRounds : List ℕ → Verdict → Type 0
IsHeadOnlyWithoutRounds cert_bytes verdict =
    (c : VersionedCertificate) → VersionedFits c → cert_bytes ≡ versioned_text c
    → (verdict ≡ HeadOnly) ↔ (c.certificate.head.rounds ≡ 0)

-- the file stands for a game without a fault, which is this in numbers
pub record IsOpened (game_bytes : List ℕ) (numbers : WeighedGame) : Type 0 where
  pub game : GameFile
  pub stands : StandsFor game_bytes game
  pub faultless : game_file_fault game ≡ None
  pub numbers_are : numbers ≡ weighed_game game
