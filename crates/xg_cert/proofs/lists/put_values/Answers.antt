use Rattle.std.proofs.Common.{◌≡◌, ◌+◌, ◌<◌, ◌∙◌, Some, slice_get, length, sym, ap, subst, arith, rules}
use Rattle.std.specs.Io.KnownBytes.{append_known}
use Rattle.def_outside.specs.Sinks.{AppendsPrefix}
use Rattle.def_reply.specs.Reply.{SetReply, values_of, choices_of}
use Rattle.def_cert_text.specs.Formats.{text_of}
use Rattle.def_cert_text.specs.CertText.{value_line}
use Rattle.xg_cert.specs.Printed.{reply_in}
use Rattle.xg_cert.specs.ReadCert.{set_reply_of}
use Rattle.xg_cert.proofs.Written.{each_step, each_fail, each_end}
use Rattle.xg_cert.proofs.SetLines.{reply_at}
use Rattle.xg_cert.proofs.lists.put_values.Goals as goal

pub returns-in_err-put_value_line-clause-text : goal.returns-in_err-put_value_line-clause-text
returns-in_err-put_value_line-clause-text g c =
    let rs = (reply_in c.args.player (g.B.Bounds.printed c.args.bounds.now)).sets in
    let low : c.sets.i < length rs = omega (arith, c.sets-test.true, c.set_count-i-end.ensures.reply) in
    let line = c.set_reply.result in
    let value : slice_get (values_of rs) c.sets.i ≡ Some line.value = ap (slice_get (values_of rs)) (omega arith) ∙ c.set_reply.ensures.value in
    let choice : slice_get (choices_of rs) c.sets.i ≡ Some line.choice = ap (slice_get (choices_of rs)) (omega arith) ∙ c.set_reply.ensures.choice in
    let said : SetReply = set_reply_of line in
    let fact = each_fail value_line _ (g.O.Sink.written c.sets.out) _ rs c.sets.i said low c.sets.invariant.so_far
    (subst (λ (r : SetReply). AppendsPrefix (g.O.Sink.written c.sets.out) (g.O.Sink.written c.put_value_line.new.out) (text_of (value_line (c.sets.i + 1)) r))
    (sym (reply_at rs c.sets.i line.value line.choice said value choice)) c.in_err-put_value_line.ensures.text) in
    search (rules, fact)

pub sets-preserved : goal.sets-preserved
sets-preserved g c =
    let rs = (reply_in c.args.player (g.B.Bounds.printed c.args.bounds.now)).sets in
    let low : c.sets.i < length rs = omega (arith, c.sets-test.true, c.set_count-i-end.ensures.reply) in
    let line = c.set_reply.result in
    let value : slice_get (values_of rs) c.sets.i ≡ Some line.value = ap (slice_get (values_of rs)) (omega arith) ∙ c.set_reply.ensures.value in
    let choice : slice_get (choices_of rs) c.sets.i ≡ Some line.choice = ap (slice_get (choices_of rs)) (omega arith) ∙ c.set_reply.ensures.choice in
    let said : SetReply = set_reply_of line in
    record {
      so_far = each_step value_line _ (g.O.Sink.written c.sets.out) _ rs c.sets.i said low c.sets.invariant.so_far
          (c.in_ok-put_value_line.ensures.text ∙ ap (λ (r : SetReply). append_known (g.O.Sink.written c.sets.out) (text_of (value_line (c.sets.i + 1)) r))
          (sym (reply_at rs c.sets.i line.value line.choice said value choice)));
      blameless = c.in_ok-put_value_line.ensures.cause ∙ c.sets.invariant.blameless;
    }

pub returns-clause-text : goal.returns-clause-text
returns-clause-text g c =
    each_end value_line _ _ (reply_in c.args.player (g.B.Bounds.printed c.args.bounds.now)).sets c.sets.i
    (omega (arith, c.sets-test.false, c.set_count-i-end.ensures.reply)) c.sets.invariant.so_far
