use Rattle.std.proofs.Common.{◌≡◌, ◌-◌}
use Rattle.def_cert_text.specs.Formats.{read_row}
use Rattle.def_sums.specs.Limits.{most_root}
use Rattle.xg_cert.specs.Answers.{behind_front}
use Rattle.xg_cert.proofs.read_lists.weights_line.Given as goal

abbrev pub invariant-items : goal.invariant-items
invariant-items l = record {
  total : l.reader.total ≡ l.fn.reader.total;
  rest : behind_front l.numbers.items (read_row most_root (1023 - l.counter) l.fn.reader.total l.reader.left)
      ≡ behind_front l.fn.numbers.items (read_row most_root 1023 l.fn.reader.total l.initial.reader.left);
}
