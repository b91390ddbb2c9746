-- Lengths come before all that files say.
use Rattle.std.proofs.Common.{◌≡◌, ℕ, ◌<◌, ◌≤◌, cond, List, length, Option, Some, ap, ◌∙◌}
use Rattle.std.specs.Option.{option_map}
use Rattle.std.proofs.lemmas.Bool.{le-ltb, lt-ltb}
use Rattle.def_file.specs.Reading.{most_bytes}
use Rattle.def_file.specs.declared.FileFault.TheVariants.{TooLong}
use Rattle.def_cert_verdict.specs.Verdict.{Verdict}
use Rattle.def_check.specs.Check.{checked, most_cert_bytes}
use Rattle.def_program.specs.CheckLines.{cert_long_line, check_text, upgraded_text}
use Rattle.def_program.specs.Program.{answer_of, both_told, certificate_answer, check_answer, refusal}
use Rattle.def_program.specs.TextLines.{fault_line}
use Rattle.def_program_readings.specs.Lengths.{LengthsComeFirst}

module _ (text : List ℕ → Verdict → List ℕ) (file : Option (List ℕ)) (certificate : Option (List ℕ)) where
  file_first : (bytes : List ℕ) → file ≡ Some bytes → most_bytes < length bytes
      → both_told text file certificate ≡ Some (refusal (fault_line TooLong))
  file_first bytes known long =
      ap (λ o. both_told text o certificate) known
      ∙ ap (λ b. cond b (Some (refusal (fault_line TooLong))) (option_map (certificate_answer text bytes) certificate))
      (lt-ltb most_bytes (length bytes) long)

  certificate_next : (file_bytes bytes : List ℕ) → file ≡ Some file_bytes → length file_bytes ≤ most_bytes
      → certificate ≡ Some bytes → most_cert_bytes < length bytes
      → both_told text file certificate ≡ Some (refusal cert_long_line)
  certificate_next file_bytes bytes known short other long =
      (λ i. both_told text (known i) (other i))
      ∙ ap (λ b. cond b (Some (refusal (fault_line TooLong))) (Some (certificate_answer text file_bytes bytes)))
      (le-ltb most_bytes (length file_bytes) short)
      ∙ ap (λ b. Some (cond b (refusal cert_long_line) (check_answer (text bytes) (checked file_bytes bytes))))
      (lt-ltb most_cert_bytes (length bytes) long)

pub lengths : LengthsComeFirst
lengths = record {
  file_of_check = λ words told file certificate bytes is known long.
      ap (λ command. answer_of command told) is ∙ file_first check_text (told file) (told certificate) bytes known long;
  file_of_upgrade = λ words told file certificate bytes is known long.
      ap (λ command. answer_of command told) is ∙ file_first upgraded_text (told file) (told certificate) bytes known long;
  certificate_of_check = λ words told file certificate file_bytes bytes is known short other long.
      ap (λ command. answer_of command told) is
      ∙ certificate_next check_text (told file) (told certificate) file_bytes bytes known short other long;
  certificate_of_upgrade = λ words told file certificate file_bytes bytes is known short other long.
      ap (λ command. answer_of command told) is
      ∙ certificate_next upgraded_text (told file) (told certificate) file_bytes bytes known short other long;
}
