use Rattle.std.proofs.Common.{ℕ, List, ◌++◌, rules, subst}
use Rattle.std.specs.Option.{option_map}
use Rattle.xg_io.proofs.Pieces.{prefix_first, prefix_then, then_rest}
use Rattle.def_cert_text.specs.CertText.{last_text}
use Rattle.def_outside.specs.Sinks.{AppendsPrefix, Writes}
use Rattle.xg_outcome.specs.Outcome.{head_of}
use Rattle.xg_cert.specs.Writable.{above_text, below_text}
use Rattle.xg_cert.proofs.Pieces.{pieces}
use Rattle.xg_cert.proofs.writing.put_text.Goals as goal

pub returns-in_err-put_above-clause-text : goal.returns-in_err-put_above-clause-text
returns-in_err-put_above-clause-text g c =
    let before = g.O.Sink.written c.args.out.now in
    let now = g.O.Sink.written c.put_above.new.out in
    let head = head_of c.args.head.now in
    let bounds = option_map (λ b. g.B.Bounds.printed b.now) c.args.bounds in
    let fact = subst (AppendsPrefix before now) (pieces c.args.first head bounds)
    (prefix_first before now (above_text c.args.first head) (below_text head.sum bounds ++ last_text) c.in_err-put_above.ensures.text) in
    search (rules, fact)

pub returns-in_err-put_below-clause-text : goal.returns-in_err-put_below-clause-text
returns-in_err-put_below-clause-text g c =
    let before = g.O.Sink.written c.args.out.now in
    let above = g.O.Sink.written c.put_above.new.out in
    let now = g.O.Sink.written c.put_below.new.out in
    let head = head_of c.args.head.now in
    let bounds = option_map (λ b. g.B.Bounds.printed b.now) c.args.bounds in
    let fact = subst (AppendsPrefix before now) (pieces c.args.first head bounds)
    (prefix_then before above now (above_text c.args.first head) (below_text head.sum bounds ++ last_text) c.in_ok-put_above.ensures.text
    (prefix_first above now (below_text head.sum bounds) last_text c.in_err-put_below.ensures.text)) in
    search (rules, fact)

pub returns-clause-text : goal.returns-clause-text
returns-clause-text g c =
    let before = g.O.Sink.written c.args.out.now in
    let above = g.O.Sink.written c.put_above.new.out in
    let below = g.O.Sink.written c.put_below.new.out in
    let now = g.O.Sink.written c.put_last_line.new.out in
    subst (λ (text : List ℕ). Writes before now text c.put_last_line.result)
    (pieces c.args.first (head_of c.args.head.now) (option_map (λ b. g.B.Bounds.printed b.now) c.args.bounds))
    (then_rest before above now _ _ c.put_last_line.result c.in_ok-put_above.ensures.text
    (then_rest above below now _ _ c.put_last_line.result c.in_ok-put_below.ensures.text c.put_last_line.ensures.text))
