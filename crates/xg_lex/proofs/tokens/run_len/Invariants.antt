use Rattle.std.proofs.Common.{◌≡◌, ◌+◌, drop}
use Rattle.std.specs.List.{prefix_len}
use Rattle.def_file_tokens.specs.Bytes.{in_run}
use Rattle.xg_lex.proofs.tokens.run_len.Given as goal

abbrev pub invariant-loop-i : goal.invariant-loop-i
invariant-loop-i l = l.i + prefix_len in_run (drop l.i l.bytes) ≡ prefix_len in_run l.bytes
