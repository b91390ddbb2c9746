use Rattle.std.proofs.Common.{◌∙◌, arith, rules}
use Rattle.xg_io.proofs.Pieces.{goes_on, fails}
use Rattle.xg_close_lines.proofs.Digits.{first_digit}
use Rattle.xg_close_lines.proofs.decimals.put_last_digits.Goals as goal

pub returns-in_err-put_digit-clause-text : goal.returns-in_err-put_digit-clause-text
returns-in_err-put_digit-clause-text g c =
    let first = first_digit c.loop-left.left c.args.number (omega arith) in
    let fact = fails _ (g.O.Sink.written c.loop-left.out) _ _ _ _ _ c.loop-left.invariant.so_far first c.in_err-put_digit.ensures.text in
    search (rules, fact)

pub loop-left-preserved : goal.loop-left-preserved
loop-left-preserved g c = record {
  so_far = goes_on _ (g.O.Sink.written c.loop-left.out) _ _ _ _ _ c.loop-left.invariant.so_far
      (first_digit c.loop-left.left c.args.number (omega arith)) c.in_ok-put_digit.ensures.text;
  blameless = c.in_ok-put_digit.ensures.cause ∙ c.loop-left.invariant.blameless;
  few = omega arith;
}
