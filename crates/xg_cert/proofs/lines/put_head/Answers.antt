use Rattle.std.proofs.Common.{◌∷◌, ◌++◌, ℕ, List, codes, rules, subst}
use Rattle.std.specs.Fmt.{decimal}
use Rattle.def_fraction.specs.Fraction.{Fraction}
use Rattle.def_outside.specs.Sinks.{AppendsPrefix, Writes}
use Rattle.def_cert_text.specs.Fields.{space, fixed_word, number, field, separator, items_text}
use Rattle.def_cert_text.specs.CertText.{mass_line, sum_line}
use Rattle.def_cert_text.specs.declared.version.TextVersion.TheVariants as versions
use Rattle.xg_outcome.specs.Outcome.{head_of}
use Rattle.xg_io.proofs.Pieces.{prefix_first, then_rest}
use Rattle.xg_cert.specs.Writes.{counts_text, units_text}
use Rattle.xg_cert.proofs.Written.{head-parts}
use Rattle.xg_cert.proofs.lines.put_head.Goals as goal

pub returns-in_err-put_counts-clause-text : goal.returns-in_err-put_counts-clause-text
returns-in_err-put_counts-clause-text g c =
    let head = head_of c.args.head.now in
    let before = g.O.Sink.written c.args.out.now in
    let now = g.O.Sink.written c.put_counts.new.out in
    let fact = subst (AppendsPrefix before now) (head-parts versions.One head)
    (prefix_first before now (counts_text head) (units_text versions.One head) c.in_err-put_counts.ensures.text) in
    search (rules, fact)

pub returns-then-is_zero-clause-text : goal.returns-then-is_zero-clause-text
returns-then-is_zero-clause-text g c =
    let head = head_of c.args.head.now in
    let before = g.O.Sink.written c.args.out.now in
    let counts = g.O.Sink.written c.put_counts.new.out in
    let now = g.O.Sink.written c.put_items.new.out in
    let units : Writes counts now (units_text versions.One head) c.put_items.result = search (rules, c.put_items.ensures.text) in
    subst (λ (text : List ℕ). Writes before now text c.put_items.result) (head-parts versions.One head)
    (then_rest before counts now (counts_text head) (units_text versions.One head) c.put_items.result c.in_ok-put_counts.ensures.text units)

pub returns-clause-text : goal.returns-clause-text
returns-clause-text g c =
    let head = head_of c.args.head.now in
    let before = g.O.Sink.written c.args.out.now in
    let counts = g.O.Sink.written c.put_counts.new.out in
    let now = g.O.Sink.written c.put_items-2.new.out in
    let fact = subst (λ (sum : Fraction). Writes counts now
    (items_text (field fixed_word (codes "unit") ∷ separator space ∷ field number (decimal head.unit) ∷ separator space
    ∷ (sum_line.items sum ++ mass_line.items head.mass))) c.put_items-2.result)
    c.wide.ensures c.put_items-2.ensures.text in
    let units : Writes counts now (units_text versions.One head) c.put_items-2.result = search (rules, fact) in
    subst (λ (text : List ℕ). Writes before now text c.put_items-2.result) (head-parts versions.One head)
    (then_rest before counts now (counts_text head) (units_text versions.One head) c.put_items-2.result c.in_ok-put_counts.ensures.text units)
