use Rattle.std.proofs.Common.{Ok, ap, ◌∙◌, arith, rules}
use Rattle.xg_lex.proofs.TokenAt.{end_here, text_here, open_here, close_here, comma_here, word_here, number_here, fault_here}
use Rattle.xg_lex.proofs.tokens.token_at.Goals as goal

pub returns-then-start-bytes-clause-value : goal.returns-then-start-bytes-clause-value
returns-then-start-bytes-clause-value c = end_here c.args.bytes.now c.args.start (omega arith)

pub returns-in-34-clause-value : goal.returns-in-34-clause-value
returns-in-34-clause-value c = c.text_at.ensures.value ∙ text_here c.args.bytes.now c.args.start (omega arith) c.in-34.is

pub returns-in-123-clause-value : goal.returns-in-123-clause-value
returns-in-123-clause-value c = open_here c.args.bytes.now c.args.start (omega arith) c.in-123.is

pub returns-in-125-clause-value : goal.returns-in-125-clause-value
returns-in-125-clause-value c = close_here c.args.bytes.now c.args.start (omega arith) c.in-125.is

pub returns-in-44-clause-value : goal.returns-in-44-clause-value
returns-in-44-clause-value c = comma_here c.args.bytes.now c.args.start (omega arith) c.in-44.is

pub returns-in_default-clause-value : goal.returns-in_default-clause-value
returns-in_default-clause-value c = ap Ok c.run_at.ensures.value ∙ word_here c.args.bytes.now c.args.start (omega arith)
    (search (rules, c.if-begins_word.ensures))

pub returns-in_default-2-clause-value : goal.returns-in_default-2-clause-value
returns-in_default-2-clause-value c =
    ap Ok c.run_at-in_default-2.ensures.value ∙ number_here c.args.bytes.now c.args.start (omega arith) (search (rules, c.if-begins_word.ensures))
    (search (rules, c.if-begins_number.ensures))

pub returns-in_default-3-clause-value : goal.returns-in_default-3-clause-value
returns-in_default-3-clause-value c =
    fault_here c.args.bytes.now c.args.start (omega arith) (omega arith) (omega arith) (omega arith) (omega arith) (search (rules, c.if-begins_word.ensures))
    (search (rules, c.if-begins_number.ensures))
