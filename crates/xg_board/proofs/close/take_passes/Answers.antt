use Rattle.std.proofs.Common.{◌≡◌, ◌+◌, ◌++◌, [], ◌∷◌, length, append-nil, arith, sym, ap, ◌∙◌, subst}
use Rattle.std.proofs.lemmas.Iterator.Adapters.{YieldsList-from_vec}
use Rattle.std.proofs.lemmas.Iterator.Consumers.{YieldsList-turn}
use Rattle.std.proofs.lemmas.List.{length-append}
use Rattle.xg_locked.specs.declared.view.View.{View}
use Rattle.xg_locked.specs.Rights.{seen}
use Rattle.xg_board.specs.Holdings.{Holding, tickets_of}
use Rattle.xg_board.proofs.GatheringOneStripe.{tickets_push}
use Rattle.xg_board.proofs.close.take_passes.Goals as goal

pub loop-pass-preserved : goal.loop-pass-preserved
loop-pass-preserved g c =
    let i = c.loop-pass.invariant in
    let old : View = c.args.all.now.me.0 in
    let was : View = c.loop-pass.all.me.0 in
    let theirs : View = c.into_seat.result.me.0 in
    let e = c.into_seat.ensures.view in
    let made = c.into_iter-pass-iterator.ensures.into_iter_gives in
    let turn = YieldsList-turn (YieldsList-from_vec c.args.passes.items made.0 (made.1 ∙ c.args.passes.ok.0)) c.loop-pass.yielded _ c.loop-pass.yielded_by _ c.next.new.self
    c.in-Some.pass c.in-Some.is c.next.ensures.steps in
    let none : c.in-Some.pass.rights ≡ [] =
    subst (λ (p : Holding). p.rights ≡ []) (sym turn.1) (c.requires.no_rights (length c.loop-pass.yielded) c.in-Some.pass turn.0) in
    let rights : was.rights ++ theirs.rights ≡ old.rights =
    ap (λ rs. was.rights ++ rs) (ap (λ m. m.0.rights) e ∙ none) ∙ append-nil was.rights ∙ ap (λ m. m.0.rights) i.view in
    let number : was.number ≡ old.number = ap (λ m. m.0.number) i.view in
    let tickets : was.tickets + theirs.tickets ≡ old.tickets + tickets_of (c.loop-pass.yielded ++ c.in-Some.pass ∷ []) =
    omega (arith, ap (λ m. m.0.tickets) i.view, ap (λ m. m.0.tickets) e, tickets_push c.loop-pass.yielded c.in-Some.pass) in
    let parts : was.parts + theirs.parts ≡ old.parts + length (c.loop-pass.yielded ++ c.in-Some.pass ∷ []) =
    omega (arith, ap (λ m. m.0.parts) i.view, ap (λ m. m.0.parts) e, length-append c.loop-pass.yielded (c.in-Some.pass ∷ [])) in
    record {
      here = c.meet.ensures.same ∙ i.here;
      view = c.meet.ensures.view ∙ (λ k. (seen (rights k) (tickets k) (parts k) (number k), (i.view k).1));
    }
