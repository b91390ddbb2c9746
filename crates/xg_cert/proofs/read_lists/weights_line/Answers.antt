use Rattle.std.proofs.Common.{ℕ, ◌∙◌, ap, rules, sym}
use Rattle.std.proofs.lemmas.Result.{err_from_is_err_and}
use Rattle.def_sums.specs.Limits.{most_root}
use Rattle.def_cert_text.specs.Formats.{read_last, read_number}
use Rattle.xg_cert.specs.Answers.{behind_front}
use Rattle.xg_cert.proofs.ManyRead.{front_fails, last_fails, last_gives, row_ends, row_fails, row_goes_on, row_last}
use Rattle.xg_cert.proofs.read_lists.weights_line.Goals as goal

pub returns-in_err-item-clause-exact : goal.returns-in_err-item-clause-exact
returns-in_err-item-clause-exact c =
    let p = err_from_is_err_and c.from_residual-in_err-item.result c.from_residual-in_err-item.ensures.1 in
    let bytes = c.items.reader.left in
    let fact = front_fails c.args.numbers.now.items _ c.in_err-item.field-0.0
    (row_fails most_root c.in_err-item.field-0.0 c.items.numbers.items 1023 c.items.counter _ bytes _ c.items-test.true
    (ap (λ (t : ℕ). read_number 0 most_root t bytes) (sym c.items.invariant.total) ∙ c.in_err-item.ensures.exact) c.items.invariant.rest) in
    rw (p.1, p.2) (search (rules, fact))

pub returns-then-item-clause-exact : goal.returns-then-item-clause-exact
returns-then-item-clause-exact c =
    let bytes = c.items.reader.left in
    let fact = row_ends most_root c.items.numbers.items 1023 c.items.counter _ bytes c.in_ok-item.item.number c.in_ok-item.item.last _ _ c.items-test.true
    (ap (λ (t : ℕ). read_number 0 most_root t bytes) (sym c.items.invariant.total) ∙ c.in_ok-item.ensures.exact) c.if-item.true c.items.invariant.rest in
    rw c.in_ok-push.ensures.items (search (rules, fact))

pub items-preserved : goal.items-preserved
items-preserved c =
    let bytes = c.items.reader.left in
    record {
      total = c.in_ok-item.ensures.total ∙ c.items.invariant.total;
      rest = rw c.in_ok-push.ensures.items (row_goes_on most_root c.items.numbers.items 1023 c.items.counter _ bytes c.in_ok-item.item.number
          c.in_ok-item.item.last _ _ c.items-test.true
          (ap (λ (t : ℕ). read_number 0 most_root t bytes) (sym c.items.invariant.total) ∙ c.in_ok-item.ensures.exact) c.if-item.false c.items.invariant.rest);
    }

pub returns-in_err-number-clause-exact : goal.returns-in_err-number-clause-exact
returns-in_err-number-clause-exact c =
    let p = err_from_is_err_and c.from_residual-in_err-number.result c.from_residual-in_err-number.ensures.1 in
    let bytes = c.items.reader.left in
    let fact = front_fails c.args.numbers.now.items _ c.in_err-number.field-0.0
    (row_last most_root c.items.numbers.items 1023 c.items.counter _ bytes _ c.items-test.false c.items.invariant.rest
    ∙ ap (behind_front c.items.numbers.items) (ap (λ (t : ℕ). read_last most_root t bytes) (sym c.items.invariant.total)
    ∙ last_fails most_root _ bytes c.in_err-number.field-0.0 c.in_err-number.ensures.exact)) in
    rw (p.1, p.2) (search (rules, fact))

pub returns-clause-exact : goal.returns-clause-exact
returns-clause-exact c =
    let bytes = c.items.reader.left in
    let fact = row_last most_root c.items.numbers.items 1023 c.items.counter _ bytes _ c.items-test.false c.items.invariant.rest
    ∙ ap (behind_front c.items.numbers.items) (ap (λ (t : ℕ). read_last most_root t bytes) (sym c.items.invariant.total)
    ∙ last_gives most_root _ bytes _ _ c.in_ok-number.ensures.exact) in
    rw c.in_ok-push-2.ensures.items (search (rules, fact))
