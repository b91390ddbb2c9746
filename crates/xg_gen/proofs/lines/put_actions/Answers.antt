use Rattle.std.proofs.Common.{◌+◌, ◌-◌, ◌<◌, ◌≡◌, ◌∙◌, ℕ, length, get_or, ap, subst, arith, rules}
use Rattle.std.specs.Io.KnownBytes.{append_known}
use Rattle.def_outside.specs.Sinks.{AppendsPrefix}
use Rattle.def_file.specs.Content.{sets_of_kind}
use Rattle.def_file.specs.Faults.{set_at}
use Rattle.def_canon.specs.Canon.{action_pieces, text_of_pieces}
use Rattle.xg_gen.specs.Writes.{no_action}
use Rattle.xg_gen.proofs.Written.{each_step, each_fail, each_end}
use Rattle.xg_gen.proofs.lines.put_actions.Goals as goal

pub returns-in_err-put_action-clause-text : goal.returns-in_err-put_action-clause-text
returns-in_err-put_action-clause-text g c =
    let xs = (set_at (sets_of_kind c.args.kind c.args.game.now.sets) (c.args.set - 1)).actions in
    let i = c.actions.i in
    let low : i < length xs = omega (arith, c.actions-test.true, c.action_count-i-end.ensures) in
    let back : i + 1 - 1 ≡ i = omega arith in
    let fact = each_fail (action_pieces c.args.kind) _ (g.O.Sink.written c.actions.out) _ xs i no_action low c.actions.invariant.so_far
    (subst (λ (n : ℕ). AppendsPrefix (g.O.Sink.written c.actions.out) (g.O.Sink.written c.put_action.new.out)
    (text_of_pieces (action_pieces c.args.kind (get_or xs n no_action)))) back c.in_err-put_action.ensures.text) in
    search (rules, fact)

pub actions-preserved : goal.actions-preserved
actions-preserved g c =
    let xs = (set_at (sets_of_kind c.args.kind c.args.game.now.sets) (c.args.set - 1)).actions in
    let i = c.actions.i in
    let low : i < length xs = omega (arith, c.actions-test.true, c.action_count-i-end.ensures) in
    let back : i + 1 - 1 ≡ i = omega arith in
    record {
      so_far = each_step (action_pieces c.args.kind) _ (g.O.Sink.written c.actions.out) _ xs i no_action low c.actions.invariant.so_far
          (c.in_ok-put_action.ensures.text ∙ ap (λ (n : ℕ). append_known (g.O.Sink.written c.actions.out)
          (text_of_pieces (action_pieces c.args.kind (get_or xs n no_action)))) back);
      blameless = c.in_ok-put_action.ensures.cause ∙ c.actions.invariant.blameless;
    }

pub returns-clause-text : goal.returns-clause-text
returns-clause-text g c =
    let xs = (set_at (sets_of_kind c.args.kind c.args.game.now.sets) (c.args.set - 1)).actions in
    each_end (action_pieces c.args.kind) _ _ xs c.actions.i (omega (arith, c.actions-test.false, c.action_count-i-end.ensures)) c.actions.invariant.so_far
