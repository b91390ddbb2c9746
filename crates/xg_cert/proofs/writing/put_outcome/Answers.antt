use Rattle.std.proofs.Common.{◌≡◌, Some, refl, subst, sym}
use Rattle.std.specs.Option.{option_map}
use Rattle.def_fraction.specs.Fraction.{most}
use Rattle.def_outside.specs.Sinks.{Writes}
use Rattle.def_reply.specs.Outcome.{Head}
use Rattle.def_cert_accepted.specs.OfOutcome.{printed_bounds, certificate_of}
use Rattle.def_cert_verdict.specs.Certificate.{Certificate}
use Rattle.def_cert_verdict.specs.Ranges.{IsFromTo}
use Rattle.def_game_numbers.specs.WholeSums.{IsWholeIn}
use Rattle.def_cert_versions.specs.Verdict.{in_version_two}
use Rattle.xg_cert.specs.declared.bounds.FormBounds.{FormBounds}
use Rattle.xg_outcome.specs.Outcome.{head_of}
use Rattle.def_cert_accepted.specs.Writable.{AreEndsOf}
use Rattle.xg_cert.specs.Writable.{AreFormBounds, form_bounds, text_under}
use Rattle.xg_cert.proofs.Seconds.{outcome_leaves}
use Rattle.xg_cert.proofs.writing.put_outcome.Goals as goal

pub put_text-requires-2 : goal.put_text-requires-2
put_text-requires-2 g c =
    let head : Head = head_of c.head-head.result.now in
    let b : FormBounds = record {
      form = c.args.form;
      unit = c.head-head.result.now.unit;
      trace = c.trace.result;
      lower = c.in-Some.lower;
      upper = c.in-Some.upper;
    } in
    let ends = subst (AreEndsOf c.args.form.now) (sym c.in-Some.ensures) c.requires.outcome.ends in
    let are : AreFormBounds b = record {
      unit = subst (λ (h : Head). IsFromTo 1 most h.unit) (sym c.head-head.ensures) c.requires.outcome.unit;
      lower = ends.0;
      upper = ends.1;
    } in
    (are, outcome_leaves head b are refl (subst (λ (h : Head). IsWholeIn h.unit h.sum) (sym c.head-head.ensures) c.requires.outcome.sum))

pub returns-clause-text : goal.returns-clause-text
returns-clause-text g c =
    let form = c.args.form.now in
    let head = c.head-head.ensures in
    let trace = c.trace.ensures in
    let ends = c.in-Some.ensures in
    let bounds : FormBounds = record {
      form = c.args.form;
      unit = c.head-head.result.now.unit;
      trace = c.trace.result;
      lower = c.in-Some.lower;
      upper = c.in-Some.upper;
    } in
    let written : Certificate = record { head = head_of c.head-head.result.now; bounds = Some (form_bounds bounds) } in
    let said : written ≡ certificate_of form c.args.outcome.now =
    λ i. record { head = head i; bounds = option_map (printed_bounds form (head i).unit (trace i)) (ends i) } in
    subst (λ (x : Certificate). Writes (g.O.Sink.written c.args.out.now) (g.O.Sink.written c.put_text-2.new.out) (text_under c.args.first (in_version_two x))
    c.put_text-2.result)
    said c.put_text-2.ensures.text
