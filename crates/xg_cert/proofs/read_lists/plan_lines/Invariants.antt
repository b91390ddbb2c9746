use Rattle.std.proofs.Common.{◌≡◌, ◌-◌, ◌+◌, get_or}
use Rattle.def_cert_text.specs.Formats.{read_each}
use Rattle.def_cert_text.specs.CertText.{weights_line}
use Rattle.xg_cert.specs.Answers.{behind_front}
use Rattle.xg_cert.specs.Printed.{IsPlanOf, cut_at}
use Rattle.xg_cert.proofs.read_lists.plan_lines.Given as goal

abbrev pub invariant-sets : goal.invariant-sets
invariant-sets l = record {
  total : l.reader.total ≡ l.fn.reader.total;
  plan : IsPlanOf l.numbers.items l.starts.items;
  root : get_or l.numbers.items 0 0 ≡ l.root;
  rest : behind_front (cut_at l.starts.items l.numbers.items)
      (read_each weights_line (l.i + 1) (l.fn.sets - l.i) l.fn.reader.total l.reader.left)
      ≡ read_each weights_line 1 l.fn.sets l.fn.reader.total l.initial.reader.left;
}
