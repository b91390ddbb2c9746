use Rattle.std.proofs.Common.{arith, length}
use Rattle.std.proofs.lemmas.Slice.{between_to_end}
use Rattle.xg_lex.proofs.Closing.{SearchesOn-closes, SearchesOn-next, SearchesOn-end}
use Rattle.xg_lex.proofs.tokens.closing_mark.Goals as goal

pub returns-then-bytes-mark-ne92-clause-value : goal.returns-then-bytes-mark-ne92-clause-value
returns-then-bytes-mark-ne92-clause-value c =
    let bytes = c.args.bytes.now in
    SearchesOn-closes bytes c.args.start c.loop-found.at c.in-Some.found _ (between_to_end bytes c.loop-found.at (length bytes) (omega arith))
    c.loop-found.invariant c.in-Some.ensures.0 c.in-Some.ensures.1 c.if-bytes-mark-ne92.true

pub loop-found-preserved : goal.loop-found-preserved
loop-found-preserved c =
    let bytes = c.args.bytes.now in
    SearchesOn-next bytes c.args.start c.loop-found.at c.in-Some.found _ (between_to_end bytes c.loop-found.at (length bytes) (omega arith))
    c.loop-found.invariant c.in-Some.ensures.0 c.in-Some.ensures.1 c.if-bytes-mark-ne92.false

pub returns-clause-value : goal.returns-clause-value
returns-clause-value c =
    let bytes = c.args.bytes.now in
    SearchesOn-end bytes c.args.start c.loop-found.at _ (between_to_end bytes c.loop-found.at (length bytes) (omega arith)) c.loop-found.invariant
    c.in_default.ensures
