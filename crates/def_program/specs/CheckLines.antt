-- What a check says: the line of what is accepted, or its upgrade, and the lines of a certificate's faults.
use Rattle.std.specs.Prelude.{ℕ, List, [], ◌++◌, codes, Result, Ok, Err}
use Rattle.std.specs.Fmt.{decimal}
use Rattle.def_fraction.specs.Text.{fraction_text}
use Rattle.def_tree.specs.declared.Player.{Player}
use Rattle.def_tree.specs.declared.Player.TheVariants.{One, Two}
use Rattle.def_cert_text.specs.declared.fault.CertFault.{CertFault}
use Rattle.def_cert_text.specs.declared.fault.CertFault.TheVariants.{CertSyntax, CertNumber, CertVersion, CertShort}
use Rattle.def_cert_text.specs.declared.fault.CertFault.TheVariants.{CertTrailing}
use Rattle.def_cert_text.specs.Versions.{VersionedCertificate}
use Rattle.def_cert_text.specs.CertText.{versioned_in, versioned_text}
use Rattle.def_cert_versions.specs.Verdict.{upgraded}
use Rattle.def_cert_verdict.specs.declared.fault.Which.{Which}
use Rattle.def_cert_verdict.specs.declared.fault.Which.TheVariants.{Lower, Upper}
use Rattle.def_cert_verdict.specs.declared.fault.TestFault.{TestFault}
use Rattle.def_cert_verdict.specs.declared.fault.TestFault.TheVariants.{HeadDiffers, NotAPlan, ValueTooGood}
use Rattle.def_cert_verdict.specs.declared.fault.TestFault.TheVariants.{ReplyNotTight, TotalDiffers, TraceWidens}
use Rattle.def_cert_verdict.specs.declared.fault.TestFault.TheVariants.{SecondDiffers}
use Rattle.def_cert_verdict.specs.Verdict.{Verdict, bracket, head_only}
use Rattle.def_check.specs.Check.{Refusal, of_certificate, of_file, of_tests}
use Rattle.def_program.specs.TextLines.{fault_line}
use Rattle.def_program.specs.Text.{line_feed}

-- ---- what is accepted
abbrev pub verdict_text : Verdict → List ℕ
verdict_text head_only = codes "accepted no bounds" ++ line_feed
verdict_text (bracket low high) =
    codes "accepted " ++ (fraction_text low ++ (codes " " ++ (fraction_text high ++ line_feed)))

-- what was read, in version 2
abbrev pub upgrade_text : Result VersionedCertificate CertFault → List ℕ
upgrade_text (Ok certificate) = versioned_text (upgraded certificate)
upgrade_text (Err fault) = []

-- ---- what is written of a certificate of these bytes that is accepted with this verdict
-- `check` writes the verdict
abbrev pub check_text : List ℕ → Verdict → List ℕ
check_text bytes shown = verdict_text shown

-- and `upgrade` the text of version 2 of what the bytes say
abbrev pub upgraded_text : List ℕ → Verdict → List ℕ
upgraded_text bytes shown = upgrade_text (versioned_in bytes)

-- ---- what is refused

-- a certificate that is too long
abbrev pub cert_long_line : List ℕ
cert_long_line = codes "refused 21 CertLong" ++ line_feed

-- bytes that are no certificate
abbrev pub cert_fault_line : CertFault → List ℕ
cert_fault_line (CertSyntax at) = codes "refused 22 CertSyntax at " ++ (decimal at ++ line_feed)
cert_fault_line (CertNumber at) = codes "refused 23 CertNumber at " ++ (decimal at ++ line_feed)
cert_fault_line CertVersion = codes "refused 24 CertVersion" ++ line_feed
cert_fault_line CertShort = codes "refused 25 CertShort" ++ line_feed
cert_fault_line (CertTrailing at) = codes "refused 26 CertTrailing at " ++ (decimal at ++ line_feed)

abbrev pub player_number : Player → ℕ
player_number One = 1
player_number Two = 2

abbrev pub end_name : Which → List ℕ
end_name Lower = codes "lower"
end_name Upper = codes "upper"

-- the line of a fault of this number and name at a player's set
abbrev pub set_line : List ℕ → Player → ℕ → List ℕ → List ℕ
set_line fault player set rest = codes "refused " ++ (fault ++ (codes " player " ++ (decimal (player_number player)
    ++ (codes " set " ++ (decimal set ++ rest)))))

-- a certificate that fails a test
abbrev pub test_fault_line : TestFault → List ℕ
test_fault_line (HeadDiffers line) = codes "refused 27 HeadDiffers line " ++ (decimal line ++ line_feed)
test_fault_line (NotAPlan player set) = set_line (codes "28 NotAPlan") player set line_feed
test_fault_line (ValueTooGood player set action) =
    set_line (codes "29 ValueTooGood") player set (codes " action " ++ (decimal action ++ line_feed))
test_fault_line (ReplyNotTight player set) = set_line (codes "30 ReplyNotTight") player set line_feed
test_fault_line (TotalDiffers end) = codes "refused 31 TotalDiffers " ++ (end_name end ++ line_feed)
test_fault_line (TraceWidens line) = codes "refused 32 TraceWidens line " ++ (decimal line ++ line_feed)
test_fault_line SecondDiffers = codes "refused 33 SecondDiffers" ++ line_feed

abbrev pub refusal_line : Refusal → List ℕ
refusal_line (of_file fault) = fault_line fault
refusal_line (of_certificate fault) = cert_fault_line fault
refusal_line (of_tests fault) = test_fault_line fault
