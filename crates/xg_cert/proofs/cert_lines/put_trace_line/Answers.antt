use Rattle.std.proofs.Common.{◌≡◌, ℤ, of_z, to_z, rules, subst}
use Rattle.std.specs.Int.{w128}
use Rattle.def_outside.specs.Sinks.{Writes}
use Rattle.def_cert_text.specs.Formats.{text_of}
use Rattle.def_cert_text.specs.CertText.{line_of_round}
use Rattle.xg_cert.proofs.cert_lines.put_trace_line.Goals as goal

pub returns-clause-text : goal.returns-clause-text
returns-clause-text g c =
    let row = c.args.row.now in
    let low : to_z w128 (of_z w128 row.low) ≡ row.low = search rules in
    let high : to_z w128 (of_z w128 row.high) ≡ row.high = search rules in
    let Written = λ (low high : ℤ). Writes (g.O.Sink.written c.args.out.now) (g.O.Sink.written c.put_items.new.out) (text_of (line_of_round 1)
    (record { round = row.round; low_round = row.low_round; low = low; high_round = row.high_round; high = high })) c.put_items.result in
    subst (Written row.low) high (subst (λ (low : ℤ). Written low (to_z w128 (of_z w128 row.high))) low c.put_items.ensures.text)
