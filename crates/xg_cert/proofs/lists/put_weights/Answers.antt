use Rattle.std.proofs.Common.{◌≡◌, ◌+◌, ◌<◌, ◌∙◌, ℕ, List, [], get_or, length, ap, subst, arith, rules}
use Rattle.std.specs.Io.KnownBytes.{append_known}
use Rattle.def_outside.specs.Sinks.{AppendsPrefix}
use Rattle.def_cert_text.specs.Formats.{text_of}
use Rattle.def_cert_text.specs.CertText.{weights_line}
use Rattle.xg_cert.specs.Printed.{plan_in}
use Rattle.xg_cert.proofs.Written.{each_step, each_fail, each_end}
use Rattle.xg_cert.proofs.lists.put_weights.Goals as goal

pub returns-in_err-put_weights_line-clause-text : goal.returns-in_err-put_weights_line-clause-text
returns-in_err-put_weights_line-clause-text g c =
    let xs = (plan_in c.args.player (g.B.Bounds.printed c.args.bounds.now)).weights in
    let low : c.sets.i < length xs = omega (arith, c.sets-test.true, c.set_count-i-end.ensures.plan) in
    let here : c.weights.result.now ≡ get_or xs c.sets.i [] = c.weights.ensures.value ∙ ap (λ (k : ℕ). get_or xs k []) (omega arith) in
    let fact = each_fail weights_line _ (g.O.Sink.written c.sets.out) _ xs c.sets.i [] low c.sets.invariant.so_far
    (subst (λ (ns : List ℕ). AppendsPrefix (g.O.Sink.written c.sets.out) (g.O.Sink.written c.put_weights_line.new.out)
    (text_of (weights_line (c.sets.i + 1)) ns))
    here c.in_err-put_weights_line.ensures.text) in
    search (rules, fact)

pub sets-preserved : goal.sets-preserved
sets-preserved g c =
    let xs = (plan_in c.args.player (g.B.Bounds.printed c.args.bounds.now)).weights in
    let low : c.sets.i < length xs = omega (arith, c.sets-test.true, c.set_count-i-end.ensures.plan) in
    let here : c.weights.result.now ≡ get_or xs c.sets.i [] = c.weights.ensures.value ∙ ap (λ (k : ℕ). get_or xs k []) (omega arith) in
    record {
      so_far = each_step weights_line _ (g.O.Sink.written c.sets.out) _ xs c.sets.i [] low c.sets.invariant.so_far
          (c.in_ok-put_weights_line.ensures.text ∙ ap (λ (ns : List ℕ). append_known (g.O.Sink.written c.sets.out) (text_of (weights_line (c.sets.i + 1)) ns))
          here);
      blameless = c.in_ok-put_weights_line.ensures.cause ∙ c.sets.invariant.blameless;
    }

pub returns-clause-text : goal.returns-clause-text
returns-clause-text g c =
    each_end weights_line _ _ (plan_in c.args.player (g.B.Bounds.printed c.args.bounds.now)).weights c.sets.i
    (omega (arith, c.sets-test.false, c.set_count-i-end.ensures.plan)) c.sets.invariant.so_far
