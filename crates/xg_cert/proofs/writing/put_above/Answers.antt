use Rattle.std.proofs.Common.{◌++◌, ℕ, List, rules, subst}
use Rattle.def_fraction.specs.Fraction.{Fraction}
use Rattle.def_outside.specs.Sinks.{AppendsPrefix, Writes}
use Rattle.def_cert_text.specs.Fields.{items_text}
use Rattle.def_cert_text.specs.CertText.{asked_line, asked_text, head_text_of, mass_line, sum_line, unit_alone_line}
use Rattle.def_cert_text.specs.declared.version.TextVersion.TheVariants as versions
use Rattle.xg_outcome.specs.Outcome.{head_of}
use Rattle.xg_io.proofs.Pieces.{prefix_first, prefix_then, then_rest}
use Rattle.xg_cert.specs.Writable.{opening_line}
use Rattle.xg_cert.specs.Writes.{counts_text, units_items}
use Rattle.xg_cert.proofs.Written.{above-parts}
use Rattle.xg_cert.proofs.writing.put_above.Goals as goal

pub returns-in_err-put_first_line-clause-text : goal.returns-in_err-put_first_line-clause-text
returns-in_err-put_first_line-clause-text g c =
    let head = head_of c.args.head.now in
    let fact = prefix_first _ _ (opening_line c.args.first) (head_text_of versions.Two head ++ asked_text head) c.in_err-put_first_line.ensures.text in
    search (rules, fact)

pub returns-in_err-put_counts-clause-text : goal.returns-in_err-put_counts-clause-text
returns-in_err-put_counts-clause-text g c =
    let head = head_of c.args.head.now in
    let before = g.O.Sink.written c.args.out.now in
    let first = g.O.Sink.written c.put_first_line.new.out in
    let now = g.O.Sink.written c.put_counts.new.out in
    let rest = items_text (units_items versions.Two head ++ asked_line.items (head.rounds, (head.every, head.scale))) in
    let fact = prefix_then before first now (opening_line c.args.first) (head_text_of versions.Two head ++ asked_text head)
    c.in_ok-put_first_line.ensures.text
    (subst (AppendsPrefix first now) (above-parts versions.Two head) (prefix_first first now (counts_text head) rest c.in_err-put_counts.ensures.text)) in
    search (rules, fact)

pub returns-clause-text : goal.returns-clause-text
returns-clause-text g c =
    let head = head_of c.args.head.now in
    let before = g.O.Sink.written c.args.out.now in
    let first = g.O.Sink.written c.put_first_line.new.out in
    let counts = g.O.Sink.written c.put_counts.new.out in
    let now = g.O.Sink.written c.put_items.new.out in
    let asked = asked_line.items (head.rounds, (head.every, head.scale)) in
    let items : Writes counts now (items_text (units_items versions.Two head ++ asked)) c.put_items.result =
    subst (λ (sum : Fraction). Writes counts now
    (items_text (unit_alone_line.items head.unit ++ (mass_line.items head.mass ++ (sum_line.items sum ++ asked)))) c.put_items.result)
    c.wide.ensures c.put_items.ensures.text in
    then_rest before first now _ _ c.put_items.result c.in_ok-put_first_line.ensures.text
    (subst (λ (text : List ℕ). Writes first now text c.put_items.result) (above-parts versions.Two head)
    (then_rest first counts now (counts_text head) _ c.put_items.result c.in_ok-put_counts.ensures.text items))
