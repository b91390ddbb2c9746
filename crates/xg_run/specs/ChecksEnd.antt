-- What is written of a certificate that is accepted, and how a check of the bytes of both files ends.
use Rattle.std.specs.Prelude.{◌≡◌, ℕ, List, Result, Ok, Err, string_bytes}
use Rattle.def_outside.specs.Calls.{SinkCall, HasFailedOnce, HasNoFault, Wrote, WroteFront, IsUntouched}
use Rattle.def_cert_verdict.specs.Verdict.{Verdict}
use Rattle.def_check.specs.Check.{Refusal, checked}
use Rattle.def_cert_text.specs.declared.fault.CertFault.{CertFault}
use Rattle.def_cert_text.specs.Versions.{VersionedCertificate}
use Rattle.def_program.specs.CheckLines.{refusal_line, upgrade_text, verdict_text}
use Rattle.xg_run.specs.declared.check.Report.{Report}
use Rattle.xg_run.specs.declared.check.Report.TheVariants as reports
use Rattle.xg_load.specs.declared.ending.Ending.{Ending}
use Rattle.xg_load.specs.declared.ending.Ending.TheVariants.{Done, Refused, ReadFault, WriteFault, NoMemory}

-- the text of what was read, where it is accepted with this verdict
abbrev pub report_text : Report → Result VersionedCertificate CertFault → Verdict → List ℕ
report_text reports.Verdict read shown = verdict_text shown
report_text reports.Upgrade read shown = upgrade_text read

-- the text of what is shown was written
pub record WroteReport (text : Verdict → List ℕ) (file certificate : List ℕ) (out : SinkCall) : Type 0 where
  pub shown : Verdict
  pub is_shown : checked file certificate ≡ Ok shown
  pub no_fault : HasNoFault out.faults
  pub wrote : Wrote out (text shown)

-- and was cut off
pub record CutReport (text : Verdict → List ℕ) (file certificate : List ℕ) (out : SinkCall) : Type 0 where
  pub shown : Verdict
  pub is_shown : checked file certificate ≡ Ok shown
  pub cause : HasFailedOnce out.faults
  pub front : WroteFront out (text shown)

-- the line says why the certificate isn't accepted
pub record SaysRefusal (file certificate : List ℕ) (out : SinkCall) (line : List ℕ) : Type 0 where
  pub why : Refusal
  pub is_refused : checked file certificate ≡ Err why
  pub line_is : line ≡ refusal_line why
  pub untouched : IsUntouched out

-- the end of a check of these bytes, with this text of what is shown
abbrev pub EndsCheck : (Verdict → List ℕ) → List ℕ → List ℕ → SinkCall → Ending → Type 0
EndsCheck text file certificate out Done = WroteReport text file certificate out
EndsCheck text file certificate out WriteFault = CutReport text file certificate out
EndsCheck text file certificate out (Refused line) = SaysRefusal file certificate out (string_bytes line)
EndsCheck text file certificate out NoMemory = IsUntouched out
EndsCheck text file certificate out ReadFault = ⊥
