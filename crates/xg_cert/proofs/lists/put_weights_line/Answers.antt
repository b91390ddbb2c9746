use Rattle.std.proofs.Common.{◌≡◌, ◌∙◌, [], ◌∷◌, codes, subst, arith, length, rules, get_or, sym, ap, List, ℕ, ◌-◌, drop}
use Rattle.std.specs.Fmt.{decimal}
use Rattle.def_cert_text.specs.Fields.{space, feed, fixed_word, number, TextItem, field, separator, items_text}
use Rattle.def_cert_text.proofs.FormatLaws.{items_text-append}
use Rattle.def_cert_text.specs.Formats.{row_items}
use Rattle.def_outside.specs.Sinks.{Writes}
use Rattle.xg_cert.specs.Writes.{field_text}
use Rattle.xg_io.proofs.Pieces.{goes_on, fails, finishes}
use Rattle.xg_cert.proofs.Written.{row_left, row_last}
use Rattle.xg_cert.proofs.lists.put_weights_line.Goals as goal

pub numbers-init : goal.numbers-init
numbers-init g c =
    let start : List TextItem = field fixed_word (codes "weights") ∷ separator space ∷ field number (decimal c.args.set) ∷ separator space ∷ [] in
    record {
      so_far = record {
        front = items_text start;
        split = items_text-append start (row_items c.args.numbers.now);
        appended = c.in_ok-put_items.ensures.text;
      };
      blameless = c.in_ok-put_items.ensures.cause;
    }

pub returns-in_err-put_whole-clause-text : goal.returns-in_err-put_whole-clause-text
returns-in_err-put_whole-clause-text g c =
    let fact = fails _ (g.O.Sink.written c.numbers.out) _ _ _ _ _ c.numbers.invariant.so_far
    (row_left c.args.numbers.now c.numbers.i _ (omega (arith, c.numbers-test.true))) c.in_err-put_whole.ensures.text in
    search (rules, fact)

pub numbers-preserved : goal.numbers-preserved
numbers-preserved g c = record {
  so_far = goes_on _ (g.O.Sink.written c.numbers.out) _ _ _ _ _ c.numbers.invariant.so_far
      (row_left c.args.numbers.now c.numbers.i _ (omega (arith, c.numbers-test.true))) c.in_ok-put_whole.ensures.text;
  blameless = c.in_ok-put_whole.ensures.cause ∙ c.numbers.invariant.blameless;
}

pub returns-clause-text : goal.returns-clause-text
returns-clause-text g c =
    let ns = c.args.numbers.now in
    let here : c.numbers.i ≡ length ns - 1 = omega (arith, c.numbers-test.false, c.numbers.auto.i-end) in
    let last : items_text (row_items (drop c.numbers.i ns)) ≡ field_text (decimal (get_or ns (length ns - 1) 0)) feed =
    row_last ns c.numbers.i 0 (omega (arith, c.requires)) ∙ ap (λ (i : ℕ). field_text (decimal (get_or ns i 0)) feed) here in
    finishes _ (g.O.Sink.written c.numbers.out) _ _ _ c.put_whole-2.result c.numbers.invariant.so_far
    (subst (λ (t : List ℕ). Writes (g.O.Sink.written c.numbers.out) (g.O.Sink.written c.put_whole-2.new.out) t c.put_whole-2.result) (sym last)
    c.put_whole-2.ensures.text)
