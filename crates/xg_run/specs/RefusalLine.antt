-- The line of a check's fault.
use Rattle.std.specs.Prelude.{◌≡◌, ℕ, List}
use Rattle.def_cert_verdict.specs.declared.fault.TestFault.TheVariants as test
use Rattle.def_program.specs.TextLines.{fault_line}
use Rattle.def_program.specs.CheckLines.{cert_fault_line, test_fault_line}
use Rattle.xg_check.specs.declared.verdict.CheckFault.{CheckFault}
use Rattle.xg_check.specs.declared.verdict.CheckFault.TheVariants.{File, Cert, HeadDiffers, NotAPlan, ValueTooGood}
use Rattle.xg_check.specs.declared.verdict.CheckFault.TheVariants.{ReplyNotTight, TotalDiffers, TraceWidens}
use Rattle.xg_check.specs.declared.verdict.CheckFault.TheVariants.{SecondDiffers, NoMemory}

abbrev pub IsCheckLine : CheckFault → List ℕ → Type 0
IsCheckLine (File fault) line = line ≡ fault_line fault
IsCheckLine (Cert fault) line = line ≡ cert_fault_line fault
IsCheckLine (HeadDiffers k) line = line ≡ test_fault_line (test.HeadDiffers k)
IsCheckLine (NotAPlan player set) line = line ≡ test_fault_line (test.NotAPlan player set)
IsCheckLine (ValueTooGood player set action) line = line ≡ test_fault_line (test.ValueTooGood player set action)
IsCheckLine (ReplyNotTight player set) line = line ≡ test_fault_line (test.ReplyNotTight player set)
IsCheckLine (TotalDiffers end) line = line ≡ test_fault_line (test.TotalDiffers end)
IsCheckLine (TraceWidens k) line = line ≡ test_fault_line (test.TraceWidens k)
IsCheckLine SecondDiffers line = line ≡ test_fault_line test.SecondDiffers
IsCheckLine NoMemory line = ⊥
