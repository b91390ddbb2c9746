-- Lengths come before all that files say.
use Rattle.std.specs.Prelude.{◌≡◌, ℕ, ◌<◌, ◌≤◌, List, length, Option, Some}
use Rattle.def_file.specs.declared.FileFault.TheVariants.{TooLong}
use Rattle.def_command.specs.Grammar.{Check, Upgrade, command_of_words}
use Rattle.def_program.specs.CheckLines.{cert_long_line}
use Rattle.def_program.specs.Program.{program, refusal}
use Rattle.def_program.specs.TextLines.{fault_line}

-- A file that is too long is refused whatever is told of the certificate, and also where nothing is. Beside one that
-- isn't, a certificate that is too long is refused whatever faults the file has.
pub record LengthsComeFirst : Type 0 where
  pub file_of_check : (words : List (List ℕ)) (told : List ℕ → Option (List ℕ)) (file certificate bytes : List ℕ)
      → command_of_words words ≡ Some (Check file certificate) → told file ≡ Some bytes → 67108864 < length bytes
      → program words told ≡ Some (refusal (fault_line TooLong))
  pub file_of_upgrade : (words : List (List ℕ)) (told : List ℕ → Option (List ℕ)) (file certificate bytes : List ℕ)
      → command_of_words words ≡ Some (Upgrade file certificate) → told file ≡ Some bytes → 67108864 < length bytes
      → program words told ≡ Some (refusal (fault_line TooLong))
  pub certificate_of_check : (words : List (List ℕ)) (told : List ℕ → Option (List ℕ))
      (file certificate file_bytes bytes : List ℕ)
      → command_of_words words ≡ Some (Check file certificate) → told file ≡ Some file_bytes
      → length file_bytes ≤ 67108864 → told certificate ≡ Some bytes → 268435456 < length bytes
      → program words told ≡ Some (refusal cert_long_line)
  pub certificate_of_upgrade : (words : List (List ℕ)) (told : List ℕ → Option (List ℕ))
      (file certificate file_bytes bytes : List ℕ)
      → command_of_words words ≡ Some (Upgrade file certificate) → told file ≡ Some file_bytes
      → length file_bytes ≤ 67108864 → told certificate ≡ Some bytes → 268435456 < length bytes
      → program words told ≡ Some (refusal cert_long_line)
