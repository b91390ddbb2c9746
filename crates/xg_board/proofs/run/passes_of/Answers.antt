use Rattle.std.proofs.Common.{◌≡◌, [], ◌∷◌, length, length-append, sym, ap, ◌∙◌, subst, arith, rules}
use Rattle.std.proofs.lemmas.Iterator.Adapters.{YieldsList-from_vec}
use Rattle.std.proofs.lemmas.Iterator.Consumers.{YieldsList-turn}
use Rattle.std.proofs.lemmas.List.Elements.{All-push}
use Rattle.xg_board.specs.Holdings.{Holding}
use Rattle.xg_board.specs.Running.{IsSpent}
use Rattle.xg_board.proofs.GatheringOneStripe.{tickets_push}
use Rattle.xg_board.proofs.run.passes_of.Goals as goal

pub loop-worker-preserved : goal.loop-worker-preserved
loop-worker-preserved g c =
    let i = c.loop-worker.invariant in
    let passes = c.loop-worker.passes.items in
    let pass = c.in-Some.worker.pass in
    let made = c.into_iter-worker-iterator.ensures.into_iter_gives in
    let turn = YieldsList-turn (YieldsList-from_vec c.args.crew.items made.0 (made.1 ∙ c.args.crew.ok.0)) c.loop-worker.yielded _ c.loop-worker.yielded_by _ c.next.new.self
    c.in-Some.worker c.in-Some.is c.next.ensures.steps in
    let done = subst (λ w. IsSpent w.pass) (sym turn.1) (c.requires.done (length c.loop-worker.yielded) c.in-Some.worker turn.0) in
    let items = c.push_reserved.ensures.items in
    record {
      len =
          omega (
            arith,
            ap length items,
            length-append passes (pass ∷ []),
            length-append c.loop-worker.yielded (c.in-Some.worker ∷ []),
            i.len,
          );
      no_rights = rw items (All-push (λ (p : Holding). p.rights ≡ []) passes pass i.no_rights done.no_right);
      spent = rw items (omega (arith, tickets_push passes pass, i.spent, done.spent));
      room = search rules;
    }
