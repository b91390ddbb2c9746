use Rattle.std.proofs.Common.{rules, ◌≡◌, Err, ℕ, ◌+◌, [], ◌∷◌, ◌++◌, ◌∙◌, ap, arith, length, length-append, subst, sym}
use Rattle.std.proofs.lemmas.Result.{err_from_is_err_and}
use Rattle.def_cert_text.specs.Formats.{read_each}
use Rattle.def_cert_text.specs.CertText.{value_line}
use Rattle.xg_plan.specs.Reply.{set_replies}
use Rattle.xg_cert.specs.declared.refused.CertRefused.TheVariants.{Cert}
use Rattle.xg_cert.specs.Answers.{Fails}
use Rattle.xg_cert.specs.ReadCert.{set_reply_of}
use Rattle.xg_cert.proofs.ManyRead.{each_done, each_fails, each_goes_on, set_replies-push}
use Rattle.xg_cert.proofs.read_lists.reply_lines.Goals as goal

pub returns-in_err-line-clause-exact : goal.returns-in_err-line-clause-exact
returns-in_err-line-clause-exact c =
    let p = err_from_is_err_and c.from_residual-in_err-line.result c.from_residual-in_err-line.ensures.1 in
    let bytes = c.sets.reader.left in
    let fact : read_each value_line 1 c.args.sets c.args.reader.now.total c.integer.new.self.left ≡ Err c.in_err-line.field-0.0 =
    each_fails value_line (Cert c.in_err-line.field-0.0) (set_replies c.sets.values.items c.sets.choices.items) c.args.sets c.sets.i _ bytes _ c.sets-test.true
    (subst (λ (t : ℕ). Fails (Cert c.in_err-line.field-0.0) ((value_line (c.sets.i + 1)).read t bytes)) c.sets.invariant.total c.in_err-line.ensures.exact)
    c.sets.invariant.rest in
    rw (p.1, p.2) (search (rules, fact))

pub sets-preserved : goal.sets-preserved
sets-preserved c =
    let bytes = c.sets.reader.left in
    let line = c.in_ok-line.line in
    let values : c.push.new.self.items ≡ c.sets.values.items ++ line.value ∷ [] = search rules in
    let choices : c.push-in-sets.new.self.items ≡ c.sets.choices.items ++ line.choice ∷ [] = c.in_ok-push-2.ensures.items in
    let pushed : set_replies c.push.new.self.items c.push-in-sets.new.self.items ≡ set_replies c.sets.values.items c.sets.choices.items ++ set_reply_of line
    ∷ [] = rw (values, choices) (set_replies-push c.sets.values.items c.sets.choices.items line.value line.choice c.sets.invariant.same) in
    record {
      total = c.in_ok-line.ensures.total ∙ c.sets.invariant.total;
      same = omega (
        arith,
        ap length values,
        ap length choices,
        c.sets.invariant.same,
        length-append c.sets.values.items (line.value ∷ []),
        length-append c.sets.choices.items (line.choice ∷ []),
      );
      rest = rw pushed (each_goes_on value_line (set_replies c.sets.values.items c.sets.choices.items) c.args.sets c.sets.i _ bytes (set_reply_of line) _ _
          c.sets-test.true
          (ap (λ (t : ℕ). (value_line (c.sets.i + 1)).read t bytes) (sym c.sets.invariant.total) ∙ c.in_ok-line.ensures.exact) c.sets.invariant.rest);
    }

pub returns-clause-exact : goal.returns-clause-exact
returns-clause-exact c =
    let fact = each_done value_line (set_replies c.sets.values.items c.sets.choices.items) c.args.sets c.sets.i _ c.sets.reader.left _ c.sets-test.false
    c.sets.invariant.rest in
    search (rules, fact)
