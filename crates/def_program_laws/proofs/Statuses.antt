-- Each status from 2 to 5 has one line.
use Rattle.std.proofs.Common.{◌≡◌, ℕ, ◌≤◌, List, refl, arith}
use Rattle.def_command.specs.Grammar.{command_of_words}
use Rattle.def_program.specs.TextLines.{memory_line, read_line, usage_line, write_line}
use Rattle.def_program.specs.Lines.{IsCheck, IsLine, of_certificate, of_file, of_long_certificate, of_memory, of_reading, of_tests, of_words, of_writing}
use Rattle.def_program_laws.specs.Lines.{StatusesHaveTheirLines}

record ByStatus (status : ℕ) (line : List ℕ) : Type 0 where
  words : status ≡ 2 → line ≡ usage_line
  reading : status ≡ 3 → line ≡ read_line
  writing : status ≡ 4 → line ≡ write_line
  memory : status ≡ 5 → line ≡ memory_line
  least : 1 ≤ status
  most : status ≤ 5

module _ (checks : Type 0) (taken status : ℕ) (line : List ℕ) where
  of_one : status ≡ 1 → ByStatus status line
  of_one is = record {
    words = λ it. absurd cc;
    reading = λ it. absurd cc;
    writing = λ it. absurd cc;
    memory = λ it. absurd cc;
    least = omega arith;
    most = omega arith;
  }

  by_status : IsLine checks taken status line → ByStatus status line
  by_status (of_file fault is same long) = of_one is
  by_status (of_long_certificate checked is same long) = of_one is
  by_status (of_certificate checked fault is same) = of_one is
  by_status (of_tests checked fault is same) = of_one is
  by_status (of_words is same) = record {
    words = λ it. same;
    reading = λ it. absurd cc;
    writing = λ it. absurd cc;
    memory = λ it. absurd cc;
    least = omega arith;
    most = omega arith;
  }
  by_status (of_reading is same) = record {
    words = λ it. absurd cc;
    reading = λ it. same;
    writing = λ it. absurd cc;
    memory = λ it. absurd cc;
    least = omega arith;
    most = omega arith;
  }
  by_status (of_writing is same) = record {
    words = λ it. absurd cc;
    reading = λ it. absurd cc;
    writing = λ it. same;
    memory = λ it. absurd cc;
    least = omega arith;
    most = omega arith;
  }
  by_status (of_memory is same) = record {
    words = λ it. absurd cc;
    reading = λ it. absurd cc;
    writing = λ it. absurd cc;
    memory = λ it. same;
    least = omega arith;
    most = omega arith;
  }

-- each status from 2 to 5 has one line, and a line goes with no other status but 1
pub statuses : StatusesHaveTheirLines
statuses = record {
  words = λ words taken line. ((λ is. (of words taken 2 line is).words refl), (λ same. of_words refl same));
  reading = λ words taken line. ((λ is. (of words taken 3 line is).reading refl), (λ same. of_reading refl same));
  writing = λ words taken line. ((λ is. (of words taken 4 line is).writing refl), (λ same. of_writing refl same));
  memory = λ words taken line. ((λ is. (of words taken 5 line is).memory refl), (λ same. of_memory refl same));
  no_other = λ words taken status line is. let it = of words taken status line is in (it.least, it.most);
}
  where
    of : (words : List (List ℕ)) (taken status : ℕ) (line : List ℕ)
        → IsLine (IsCheck (command_of_words words)) taken status line → ByStatus status line
    of words taken status line is = by_status (IsCheck (command_of_words words)) taken status line is
