use Rattle.std.proofs.Common.{◌≡◌, ◌-◌, ◌+◌}
use Rattle.def_cert_text.specs.Formats.{read_each}
use Rattle.def_cert_text.specs.CertText.{evaluation_count, line_of_round, round_of_evaluation}
use Rattle.xg_cert.specs.Answers.{behind_front}
use Rattle.xg_outcome.specs.Outcome.{head_of}
use Rattle.xg_cert.proofs.read_lists.trace_lines.Given as goal

abbrev pub invariant-rows : goal.invariant-rows
invariant-rows l =
    let head = head_of l.fn.head in
    record {
      total : l.reader.total ≡ l.fn.reader.total;
      rest : behind_front l.rows.items
          (read_each (λ k. line_of_round (round_of_evaluation head k)) (l.i + 1) (evaluation_count head - l.i) l.fn.reader.total l.reader.left)
          ≡ read_each (λ k. line_of_round (round_of_evaluation head k)) 1 (evaluation_count head) l.fn.reader.total l.fn.reader.left;
    }
