use Rattle.std.proofs.Common.{arith}
use Rattle.xg_read.proofs.Digits.{one_digit, two_digits}
use Rattle.xg_read.proofs.values.read_number.Goals as goal

pub returns-in-48-to-57-clause-exact : goal.returns-in-48-to-57-clause-exact
returns-in-48-to-57-clause-exact c = one_digit c.args.bytes.now (omega arith) (omega arith) (omega arith)

pub returns-in-48-to-57-2-clause-exact : goal.returns-in-48-to-57-2-clause-exact
returns-in-48-to-57-2-clause-exact c =
    two_digits c.args.bytes.now (omega arith) (omega arith) (omega arith) (omega arith) (omega arith)
