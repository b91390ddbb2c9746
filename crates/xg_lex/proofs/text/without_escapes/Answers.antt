use Rattle.std.proofs.Common.{◌++◌, length, ap, ◌∙◌, arith}
use Rattle.std.proofs.lemmas.Slice.{between_to_end}
use Rattle.xg_lex.proofs.Escapes.{StandsFor-next, StandsFor-end}
use Rattle.xg_lex.proofs.text.without_escapes.Goals as goal

pub loop-found-preserved : goal.loop-found-preserved
loop-found-preserved c =
    let raw = c.args.raw.now in
    let at = c.loop-found.at in
    rw (c.in_ok-push.ensures.items, c.in_ok-extend_from_slice.ensures.items)
    (StandsFor-next raw at c.in-Some.found c.loop-found.bytes.items _ (between_to_end raw at (length raw) (omega arith)) c.loop-found.invariant
    c.in-Some.ensures.0 c.in-Some.ensures.1)

pub returns : goal.returns
returns c =
    let raw = c.args.raw.now in
    let at = c.loop-found.at in
    let rest_is = between_to_end raw at (length raw) (omega arith) in
    c.in_ok-extend_from_slice-2.ensures.items ∙ ap (λ l. c.loop-found.bytes.items ++ l) rest_is
    ∙ StandsFor-end raw at c.loop-found.bytes.items _ rest_is c.loop-found.invariant c.in_default.ensures
