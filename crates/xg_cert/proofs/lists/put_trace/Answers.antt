use Rattle.std.proofs.Common.{◌<◌, ◌∙◌, length, arith, rules}
use Rattle.def_cert_text.specs.CertText.{line_of_round}
use Rattle.xg_cert.proofs.Written.{each_step, each_fail, each_end}
use Rattle.xg_cert.proofs.lists.put_trace.Goals as goal

pub returns-in_err-put_trace_line-clause-text : goal.returns-in_err-put_trace_line-clause-text
returns-in_err-put_trace_line-clause-text g c =
    let low : c.rows.i < length c.args.rows.now = c.rows-test.true in
    let fact = each_fail line_of_round _ (g.O.Sink.written c.rows.out) _ c.args.rows.now c.rows.i _ low c.rows.invariant.so_far
    c.in_err-put_trace_line.ensures.text in
    search (rules, fact)

pub rows-preserved : goal.rows-preserved
rows-preserved g c =
    let low : c.rows.i < length c.args.rows.now = c.rows-test.true in
    record {
      so_far = each_step line_of_round _ (g.O.Sink.written c.rows.out) _ c.args.rows.now c.rows.i _ low c.rows.invariant.so_far
          c.in_ok-put_trace_line.ensures.text;
      blameless = c.in_ok-put_trace_line.ensures.cause ∙ c.rows.invariant.blameless;
    }

pub returns-clause-text : goal.returns-clause-text
returns-clause-text g c = each_end line_of_round _ _ c.args.rows.now c.rows.i (omega (arith, c.rows-test.false)) c.rows.invariant.so_far
