use Rattle.std.proofs.Common.{◌≡◌, ◌-◌, ◌+◌, length}
use Rattle.def_cert_text.specs.Formats.{read_each}
use Rattle.def_cert_text.specs.CertText.{value_line}
use Rattle.xg_plan.specs.Reply.{set_replies}
use Rattle.xg_cert.specs.Answers.{behind_front}
use Rattle.xg_cert.proofs.read_lists.reply_lines.Given as goal

abbrev pub invariant-sets : goal.invariant-sets
invariant-sets l = record {
  total : l.reader.total ≡ l.fn.reader.total;
  same : length l.choices.items ≡ length l.values.items;
  rest : behind_front (set_replies l.values.items l.choices.items)
      (read_each value_line (l.i + 1) (l.fn.sets - l.i) l.fn.reader.total l.reader.left)
      ≡ read_each value_line 1 l.fn.sets l.fn.reader.total l.initial.reader.left;
}
