use Rattle.std.proofs.Common.{ℕ, ◌+◌, ◌∙◌, ap, subst, sym}
use Rattle.std.proofs.lemmas.Result.{err_from_is_err_and}
use Rattle.def_cert_text.specs.Formats.{Format}
use Rattle.def_cert_text.specs.CertText.{evaluation_count, line_of_round, round_of_evaluation}
use Rattle.def_reply.specs.declared.TraceLine.{TraceLine}
use Rattle.xg_cert.specs.declared.refused.CertRefused.TheVariants.{Cert}
use Rattle.xg_cert.specs.Answers.{Fails}
use Rattle.xg_outcome.specs.Outcome.{head_of}
use Rattle.xg_cert.proofs.ManyRead.{each_done, each_fails, each_goes_on}
use Rattle.xg_cert.proofs.read_lists.trace_lines.Goals as goal

pub returns-in_err-row-clause-exact : goal.returns-in_err-row-clause-exact
returns-in_err-row-clause-exact c =
    let p = err_from_is_err_and c.from_residual.result c.from_residual.ensures.1 in
    let head = head_of c.args.head.now in
    let lines : ℕ → Format TraceLine = λ k. line_of_round (round_of_evaluation head k) in
    let bytes = c.rows.reader.left in
    rw (p.1, p.2) (each_fails lines (Cert c.in_err-row.field-0.0) c.rows.rows.items (evaluation_count head) c.rows.i _ bytes _
    (rw (sym c.evaluation_count-count.ensures) c.rows-test.true)
    (subst (λ (t : ℕ). Fails (Cert c.in_err-row.field-0.0) ((lines (c.rows.i + 1)).read t bytes)) c.rows.invariant.total
    (subst (λ (round : ℕ). Fails (Cert c.in_err-row.field-0.0) ((line_of_round round).read c.rows.reader.total bytes)) c.round_of_evaluation.ensures
    c.in_err-row.ensures.exact))
    c.rows.invariant.rest)

pub rows-preserved : goal.rows-preserved
rows-preserved c =
    let head = head_of c.args.head.now in
    let lines : ℕ → Format TraceLine = λ k. line_of_round (round_of_evaluation head k) in
    let bytes = c.rows.reader.left in
    record {
      total = c.in_ok-row.ensures.total ∙ c.rows.invariant.total;
      rest = rw c.in_ok-push.ensures.items (each_goes_on lines c.rows.rows.items (evaluation_count head) c.rows.i _ bytes c.in_ok-row.row _ _
          (rw (sym c.evaluation_count-count.ensures) c.rows-test.true)
          (ap (λ (t : ℕ). (lines (c.rows.i + 1)).read t bytes) (sym c.rows.invariant.total)
          ∙ ap (λ (round : ℕ). (line_of_round round).read c.rows.reader.total bytes) (sym c.round_of_evaluation.ensures) ∙ c.in_ok-row.ensures.exact)
          c.rows.invariant.rest);
    }

pub returns-clause-exact : goal.returns-clause-exact
returns-clause-exact c =
    let head = head_of c.args.head.now in
    let lines : ℕ → Format TraceLine = λ k. line_of_round (round_of_evaluation head k) in
    each_done lines c.rows.rows.items (evaluation_count head) c.rows.i _ c.rows.reader.left _ (rw (sym c.evaluation_count-count.ensures) c.rows-test.false)
    c.rows.invariant.rest
