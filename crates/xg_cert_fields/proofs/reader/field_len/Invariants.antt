use Rattle.std.proofs.Common.{◌≡◌, ◌+◌, drop}
use Rattle.std.specs.List.{prefix_len}
use Rattle.def_cert_text.specs.Fields.{is_field_byte}
use Rattle.xg_cert_fields.proofs.reader.field_len.Given as goal

abbrev pub invariant-loop-i : goal.invariant-loop-i
invariant-loop-i l = prefix_len is_field_byte l.bytes ≡ l.i + prefix_len is_field_byte (drop l.i l.bytes)
