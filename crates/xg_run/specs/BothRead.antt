-- What reading a file and a certificate answers, where the bytes of both are told: their bytes, or how the run ends.
use Rattle.std.specs.Prelude.{◌≡◌, ◌⊎◌, ℕ, ◌<◌, ◌≤◌, List, length, Option, IfSome, Result, Ok, Err, string_bytes}
use Rattle.def_outside.specs.Calls.{FilesCall, HasFailedOnce, HasNoFault}
use Rattle.def_outside.specs.Cause.{next_count}
use Rattle.def_file.specs.Reading.{most_bytes}
use Rattle.def_file.specs.declared.FileFault.TheVariants.{TooLong}
use Rattle.def_check.specs.Check.{most_cert_bytes}
use Rattle.def_program.specs.CheckLines.{cert_long_line}
use Rattle.def_program.specs.TextLines.{fault_line}
use Rattle.xg_load.specs.declared.ending.Ending.{Ending}
use Rattle.xg_load.specs.declared.ending.Ending.TheVariants.{Done, Refused, ReadFault, WriteFault, NoMemory}
use Rattle.xg_run.specs.declared.both.Both.{Both}

-- the bytes of both, none of which are more than their limit
pub record HasRead (file certificate : Option (List ℕ)) (both : Both) : Type 0 where
  pub file_is : IfSome file (λ bytes. both.file.items ≡ bytes)
  pub certificate_is : IfSome certificate (λ bytes. both.certificate.items ≡ bytes)
  pub small_file : length both.file.items ≤ most_bytes
  pub small_certificate : length both.certificate.items ≤ most_cert_bytes

-- the line says that the file is too long; the certificate isn't opened
pub record IsLongFile (file : Option (List ℕ)) (files : FilesCall) (line : List ℕ) : Type 0 where
  pub line_is : line ≡ fault_line TooLong
  pub long : IfSome file (λ bytes. most_bytes < length bytes)
  pub taken : most_bytes < files.taken
  pub alone : files.opens_now ≡ next_count files.opens_before

-- the line says that the certificate is
pub record IsLongCertificate (file certificate : Option (List ℕ)) (files : FilesCall) (line : List ℕ) : Type 0 where
  pub line_is : line ≡ cert_long_line
  pub short : IfSome file (λ bytes. length bytes ≤ most_bytes)
  pub long : IfSome certificate (λ bytes. most_cert_bytes < length bytes)
  pub taken : most_cert_bytes < files.taken

-- exactly one fault is counted where one of both can't be read, and else none
abbrev pub ReadsBoth : Option (List ℕ) → Option (List ℕ) → FilesCall → Result Both Ending → Type 0
ReadsBoth file certificate files (Ok both) = HasRead file certificate both × HasNoFault files.faults
ReadsBoth file certificate files (Err (Refused line)) =
    (IsLongFile file files (string_bytes line) ⊎ IsLongCertificate file certificate files (string_bytes line))
    × HasNoFault files.faults
ReadsBoth file certificate files (Err ReadFault) = HasFailedOnce files.faults
ReadsBoth file certificate files (Err NoMemory) = HasNoFault files.faults
ReadsBoth file certificate files (Err Done) = ⊥
ReadsBoth file certificate files (Err WriteFault) = ⊥
