use Rattle.std.proofs.Common.{rules, ◌≡◌, ℕ, ◌+◌, [], ◌∷◌, ◌++◌, ◌∙◌, ap, length, subst, sym}
use Rattle.std.proofs.lemmas.Result.{err_from_is_err_and}
use Rattle.def_cert_text.specs.Formats.{read_each}
use Rattle.def_cert_text.specs.CertText.{weights_line}
use Rattle.xg_cert.specs.Answers.{Fails}
use Rattle.xg_cert.specs.Printed.{cut_at}
use Rattle.xg_cert.proofs.Cuts.{plan_grows}
use Rattle.xg_cert.proofs.ManyRead.{each_done, each_fails, each_goes_on, put_behind, refused_so}
use Rattle.xg_cert.proofs.read_lists.plan_lines.Goals as goal

pub returns-in_err-weights_line-clause-exact : goal.returns-in_err-weights_line-clause-exact
returns-in_err-weights_line-clause-exact c =
    let p = err_from_is_err_and c.from_residual-in_err-weights_line.result c.from_residual-in_err-weights_line.ensures.1 in
    let bytes = c.sets.reader.left in
    let fails = each_fails weights_line c.in_err-weights_line.field-0.0 (cut_at c.sets.starts.items c.sets.numbers.items) c.args.sets c.sets.i _ bytes _
    c.sets-test.true
    (subst (λ (t : ℕ). Fails c.in_err-weights_line.field-0.0 ((weights_line (c.sets.i + 1)).read t bytes)) c.sets.invariant.total
    c.in_err-weights_line.ensures.exact) c.sets.invariant.rest in
    rw (p.1, p.2) (refused_so c.in_err-weights_line.field-0.0 (read_each weights_line 1 c.args.sets c.args.reader.now.total c.named.new.self.left) _
    (λ fault is. search (rules, is)) fails)

pub sets-preserved : goal.sets-preserved
sets-preserved c =
    let bytes = c.sets.reader.left in
    let numbers = c.sets.numbers.items in
    let starts = c.sets.starts.items in
    let now = c.weights_line.new.numbers.items in
    let row = put_behind numbers now _ _ c.in_ok-weights_line.ensures.exact in
    let started : c.push-in-sets.new.self.items ≡ starts ++ length now ∷ [] = search rules in
    let grown = plan_grows numbers starts row.values now c.push-in-sets.new.self.items c.sets.invariant.plan row.are_behind started in
    record {
      total = c.in_ok-weights_line.ensures.total ∙ c.sets.invariant.total;
      plan = grown.plan;
      root = grown.root ∙ c.sets.invariant.root;
      rest = rw grown.groups (each_goes_on weights_line (cut_at starts numbers) c.args.sets c.sets.i _ bytes row.values _ _ c.sets-test.true
          (ap (λ (t : ℕ). (weights_line (c.sets.i + 1)).read t bytes) (sym c.sets.invariant.total) ∙ row.are_read) c.sets.invariant.rest);
    }

pub returns-clause-exact : goal.returns-clause-exact
returns-clause-exact c =
    let fact = each_done weights_line (cut_at c.sets.starts.items c.sets.numbers.items) c.args.sets c.sets.i _ c.sets.reader.left _ c.sets-test.false
    c.sets.invariant.rest in
    search (rules, fact, c.sets.invariant.root)
