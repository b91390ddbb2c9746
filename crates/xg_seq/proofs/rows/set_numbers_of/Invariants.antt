use Rattle.std.proofs.Common.{◌≡◌, ◌+◌, ◌++◌, replicate, take}
use Rattle.xg_seq.specs.Table.{set_numbers_from}
use Rattle.xg_seq.proofs.rows.set_numbers_of.Given as goal

abbrev pub invariant-loop : goal.invariant-loop
invariant-loop l = l.set_numbers.items ≡ set_numbers_from 1 (take l.i l.rows) ++ replicate l.counter (l.i + 1)

abbrev pub invariant-loop-i : goal.invariant-loop-i
invariant-loop-i l = l.set_numbers.items ≡ set_numbers_from 1 (take l.i l.rows)
