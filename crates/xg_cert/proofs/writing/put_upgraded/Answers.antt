use Rattle.std.proofs.Common.{◌≡◌, ◌≤◌, Some, ap, arith, subst, sym}
use Rattle.def_outside.specs.Sinks.{Writes}
use Rattle.def_reply.specs.Outcome.{Head}
use Rattle.def_cert_verdict.specs.Certificate.{Certificate}
use Rattle.def_cert_text.specs.CertText.{versioned_text}
use Rattle.def_cert_versions.specs.Verdict.{in_version_two}
use Rattle.xg_outcome.specs.Outcome.{head_of}
use Rattle.xg_cert.specs.Printed.{bounds_in}
use Rattle.xg_cert.specs.Writable.{LeavesSecond}
use Rattle.xg_cert.proofs.Seconds.{upgrade_leaves}
use Rattle.xg_cert.proofs.writing.put_upgraded.Goals as goal

pub put_text-requires-2 : goal.put_text-requires-2
put_text-requires-2 g c =
    let read = c.args.cert.now in
    let same = c.head-head.ensures.value in
    let asked : 1 ≤ read.certificate.head.rounds = omega (arith, ap (λ (h : Head). h.rounds) same, c.if-head-eq0.false) in
    (asked, subst (λ (h : Head). LeavesSecond h (bounds_in read.certificate)) (sym same) (upgrade_leaves read c.head-head.ensures.within c.requires asked))

pub returns-clause-text : goal.returns-clause-text
returns-clause-text g c =
    let read = c.args.cert.now.certificate in
    let same = c.head-head.ensures.value in
    let asked : 1 ≤ read.head.rounds = omega (arith, ap (λ (h : Head). h.rounds) same, c.if-head-eq0.false) in
    let bounds = c.head-head.ensures.bounds asked in
    let written : Certificate = record { head = head_of c.head-head.result.now; bounds = Some (bounds_in read) } in
    let said : written ≡ read = λ i. record { head = same i; bounds = sym bounds i } in
    subst (λ (x : Certificate). Writes (g.O.Sink.written c.args.out.now) (g.O.Sink.written c.put_text-2.new.out) (versioned_text (in_version_two x))
    c.put_text-2.result)
    said c.put_text-2.ensures.text
