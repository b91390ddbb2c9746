use Rattle.xg_frac.proofs.ReadLemmas.{judged-at, value-at}
use Rattle.xg_frac.proofs.literal.read_literal.Goals as goal

pub returns-clause-value : goal.returns-clause-value
returns-clause-value c = value-at c.args.bytes.now c.read_exactly.result (judged-at c.args.bytes.now c.read_exactly.result c.read_exactly.ensures)

pub returns-clause-form : goal.returns-clause-form
returns-clause-form c = (judged-at c.args.bytes.now c.read_exactly.result c.read_exactly.ensures).form

pub returns-clause-zero_denominator : goal.returns-clause-zero_denominator
returns-clause-zero_denominator c = (judged-at c.args.bytes.now c.read_exactly.result c.read_exactly.ensures).zero_denominator

pub returns-clause-range : goal.returns-clause-range
returns-clause-range c = (judged-at c.args.bytes.now c.read_exactly.result c.read_exactly.ensures).range
