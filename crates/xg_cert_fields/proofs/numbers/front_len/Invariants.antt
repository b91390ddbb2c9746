use Rattle.std.proofs.Common.{◌≡◌, ◌+◌, drop}
use Rattle.std.specs.List.{prefix_len}
use Rattle.def_cert_text.specs.Numbers.{is_no_slash}
use Rattle.xg_cert_fields.proofs.numbers.front_len.Given as goal

abbrev pub invariant-loop-i : goal.invariant-loop-i
invariant-loop-i l = prefix_len is_no_slash l.field ≡ l.i + prefix_len is_no_slash (drop l.i l.field)
