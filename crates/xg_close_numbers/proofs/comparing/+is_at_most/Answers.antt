use Rattle.std.proofs.Common.{arith}
use Rattle.xg_close_numbers.proofs.Products.{by_first, by_remainders, none_left, some_left}
use Rattle.xg_close_numbers.proofs.comparing.+is_at_most.Goals as goal

pub returns-then-first-second : goal.returns-then-first-second
returns-then-first-second t c =
    by_first c.args.a c.args.b c.args.c c.args.d c.requires.first c.requires.second (omega arith)

pub returns-then-left-eq0 : goal.returns-then-left-eq0
returns-then-left-eq0 t c = none_left c.args.a c.args.b c.args.c c.args.d (omega arith) (omega arith)

pub returns-then-right-eq0 : goal.returns-then-right-eq0
returns-then-right-eq0 t c =
    some_left c.args.a c.args.b c.args.c c.args.d c.requires.first (omega arith) (omega arith) (omega arith)

pub returns : goal.returns
returns t c =
    let same = by_remainders c.args.a c.args.b c.args.c c.args.d (omega arith) in
    (λ is. same.1 (c.is_at_most.ensures.0 is), λ is. c.is_at_most.ensures.1 (same.0 is))
