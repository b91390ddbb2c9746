use Rattle.std.proofs.Common.{◌≡◌, ◌+◌, ◌++◌, ◌∷◌, [], ℕ, List, length, length-append, ap, sym, ◌∙◌, subst, arith}
use Rattle.std.specs.Prelude.{Contains}
use Rattle.std.proofs.lemmas.Iterator.Adapters.{YieldsList-from_vec}
use Rattle.std.proofs.lemmas.Iterator.Consumers.{YieldsList-turn}
use Rattle.def_sums.proofs.RisingLists.{Contains-head}
use Rattle.xg_words.specs.Holdings.{OwnerClaims}
use Rattle.xg_words.specs.Running.{IsDoneClaiming}
use Rattle.xg_words.proofs.crew.join_all.Goals as goal

pub loop-member-preserved : goal.loop-member-preserved
loop-member-preserved g c =
    let i = c.loop-member.invariant in
    let owner = c.loop-member.owner in
    let made = c.into_iter-member-iterator.ensures.into_iter_gives in
    let turn = YieldsList-turn (YieldsList-from_vec c.args.crew.items made.0 (made.1 ∙ c.args.crew.ok.0)) c.loop-member.yielded _ c.loop-member.yielded_by _
    c.next.new.self c.in-Some.member c.in-Some.is c.next.ensures.steps in
    let done = subst (λ m. IsDoneClaiming c.args.board.now.table.shared.table_id g.N.RowName.jobs g.N.RowName.rows g.N.RowName.amount m.worker) (sym turn.1)
    (c.requires.done (length c.loop-member.yielded) c.in-Some.member turn.0) in
    let joined = c.join.ensures in
    let numbers = ap (λ (o : OwnerClaims). o.numbers) joined ∙ ap (λ ns. ns ++ owner.numbers) done.numbers_are in
    record {
      table = ap (λ (o : OwnerClaims). o.table) joined ∙ i.table;
      unjoined =
          omega (
            arith,
            ap (λ (o : OwnerClaims). o.unjoined) joined,
            i.unjoined,
            c.requires.unjoined,
            turn.0,
            length-append c.loop-member.yielded (c.in-Some.member ∷ []),
          );
      past = λ _.
          (done.last, subst (λ (ns : List ℕ). Contains ns done.last) (sym numbers) (Contains-head done.last (done.earlier ++ owner.numbers)), done.past);
    }
