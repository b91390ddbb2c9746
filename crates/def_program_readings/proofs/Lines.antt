-- The line of each status, and when it was said.
use Rattle.std.proofs.Common.{◌≡◌, inl, inr, ℕ, List, refl}
use Rattle.def_program.specs.Lines.{IsLine, of_certificate, of_file, of_long_certificate, of_memory, of_reading, of_tests, of_words, of_writing}
use Rattle.def_program.specs.TextLines.{memory_line, read_line, usage_line, write_line}
use Rattle.def_program_readings.specs.Lines.{ChecksSayFaults, IsFaultLine, LinesAreRead, SaidIsMeant}

module _ (checks : Type 0) (taken : ℕ) (line : List ℕ) where
  fault_line_of : IsLine checks taken 1 line → IsFaultLine checks taken line
  fault_line_of (of_file fault status is long) = inl (fault, is, long)
  fault_line_of (of_long_certificate c status is long) = inr (c, inl (is, long))
  fault_line_of (of_certificate c fault status is) = inr (c, inr (inl (fault, is)))
  fault_line_of (of_tests c fault status is) = inr (c, inr (inr (fault, is)))
  fault_line_of (of_words status is) = absurd cc
  fault_line_of (of_reading status is) = absurd cc
  fault_line_of (of_writing status is) = absurd cc
  fault_line_of (of_memory status is) = absurd cc

  is_fault_line : IsFaultLine checks taken line → IsLine checks taken 1 line
  is_fault_line (inl file) = of_file file.0 refl file.1 file.2
  is_fault_line (inr (c, inl long)) = of_long_certificate c refl long.0 long.1
  is_fault_line (inr (c, inr (inl text))) = of_certificate c text.0 refl text.1
  is_fault_line (inr (c, inr (inr test))) = of_tests c test.0 refl test.1

  words_line : IsLine checks taken 2 line → line ≡ usage_line
  words_line (of_words status is) = is
  words_line (of_file fault status is long) = absurd cc
  words_line (of_long_certificate c status is long) = absurd cc
  words_line (of_certificate c fault status is) = absurd cc
  words_line (of_tests c fault status is) = absurd cc
  words_line (of_reading status is) = absurd cc
  words_line (of_writing status is) = absurd cc
  words_line (of_memory status is) = absurd cc

  reading_line : IsLine checks taken 3 line → line ≡ read_line
  reading_line (of_reading status is) = is
  reading_line (of_file fault status is long) = absurd cc
  reading_line (of_long_certificate c status is long) = absurd cc
  reading_line (of_certificate c fault status is) = absurd cc
  reading_line (of_tests c fault status is) = absurd cc
  reading_line (of_words status is) = absurd cc
  reading_line (of_writing status is) = absurd cc
  reading_line (of_memory status is) = absurd cc

  writing_line : IsLine checks taken 4 line → line ≡ write_line
  writing_line (of_writing status is) = is
  writing_line (of_file fault status is long) = absurd cc
  writing_line (of_long_certificate c status is long) = absurd cc
  writing_line (of_certificate c fault status is) = absurd cc
  writing_line (of_tests c fault status is) = absurd cc
  writing_line (of_words status is) = absurd cc
  writing_line (of_reading status is) = absurd cc
  writing_line (of_memory status is) = absurd cc

  memory_line_of : IsLine checks taken 5 line → line ≡ memory_line
  memory_line_of (of_memory status is) = is
  memory_line_of (of_file fault status is long) = absurd cc
  memory_line_of (of_long_certificate c status is long) = absurd cc
  memory_line_of (of_certificate c fault status is) = absurd cc
  memory_line_of (of_tests c fault status is) = absurd cc
  memory_line_of (of_words status is) = absurd cc
  memory_line_of (of_reading status is) = absurd cc
  memory_line_of (of_writing status is) = absurd cc

  no_line : IsLine checks taken 0 line → ⊥
  no_line (of_file fault status is long) = cc
  no_line (of_long_certificate c status is long) = cc
  no_line (of_certificate c fault status is) = cc
  no_line (of_tests c fault status is) = cc
  no_line (of_words status is) = cc
  no_line (of_reading status is) = cc
  no_line (of_writing status is) = cc
  no_line (of_memory status is) = cc

pub lines : LinesAreRead
lines = record {
  of_fault = λ words taken line. (fault_line_of _ taken line, is_fault_line _ taken line);
  of_words = λ words taken line. (words_line _ taken line, λ is. of_words refl is);
  of_reading = λ words taken line. (reading_line _ taken line, λ is. of_reading refl is);
  of_writing = λ words taken line. (writing_line _ taken line, λ is. of_writing refl is);
  of_memory = λ words taken line. (memory_line_of _ taken line, λ is. of_memory refl is);
  none = λ words taken line h. no_line _ taken line h;
}

pub checks : ChecksSayFaults
checks = record {
  check = λ file certificate. tt;
  upgrade = λ file certificate. tt;
  solve = λ file asked rows h. h;
  plus = λ file asked rows h. h;
  drill = λ cards asked rows h. h;
  batch = λ files asked workers h. h;
  info = λ file h. h;
  gen = λ cards h. h;
  usage = λ h. h;
}

pub said_is_meant : SaidIsMeant
said_is_meant words told status taken err = (
  λ h. (h.line, h.said, h.fits, h.answered),
  λ h. record { line = h.0; said = h.1; fits = h.2; answered = h.3 },
)
