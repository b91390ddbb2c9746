use Rattle.std.proofs.Common.{Ok, ap, ◌∙◌, arith}
use Rattle.xg_read.proofs.Digits.{digit_literal, minus_digit_literal}
use Rattle.xg_read.proofs.values.read_fraction.Goals as goal

pub returns-in-48-to-57 : goal.returns-in-48-to-57
returns-in-48-to-57 c = ap Ok c.small.ensures ∙ digit_literal c.args.bytes.now (omega arith) (omega arith) (omega arith)

pub returns-in-45 : goal.returns-in-45
returns-in-45 c = ap Ok c.small-in-45.ensures ∙ minus_digit_literal c.args.bytes.now (omega arith) (omega arith) (omega arith) (omega arith)
