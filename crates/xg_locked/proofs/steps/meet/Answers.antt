use Rattle.std.proofs.Common.{◌≡◌, ℕ, ◌+◌, ◌++◌, sym, ap, ◌∙◌, subst}
use Rattle.atomic_table.specs.Table.{Me}
use Rattle.xg_locked.specs.declared.view.View.{View}
use Rattle.xg_locked.specs.Rights.{both, seen, IsLoaded}
use Rattle.xg_locked.proofs.Moves.{met_is}
use Rattle.xg_locked.proofs.steps.meet.Goals as goal

-- what two seats are, once one was joined into the other and loaded
met : (n : ℕ) (mine theirs joined : Me (Unit {0}) View) → joined ≡ (both mine.0 theirs.0, mine.1) → IsLoaded n joined.0
    → (mine.0.number ≡ theirs.0.number)
    × (both mine.0 theirs.0
    ≡ seen (mine.0.rights ++ theirs.0.rights) (mine.0.tickets + theirs.0.tickets) (mine.0.parts + theirs.0.parts) mine.0.number)
    × IsLoaded mine.0.number (both mine.0 theirs.0)
met n mine theirs joined is loaded = met_is n mine.0 theirs.0 (subst (λ (m : Me (Unit {0}) View). IsLoaded n m.0) is loaded)

pub returns-clause-numbers : goal.returns-clause-numbers
returns-clause-numbers c =
    (met c.load.result c.args.seat.now.me c.args.other.me c.join.new.seat.me c.join.ensures.same.1 c.load.ensures.loaded).0

pub returns-clause-view : goal.returns-clause-view
returns-clause-view c =
    let are = met c.load.result c.args.seat.now.me c.args.other.me c.join.new.seat.me c.join.ensures.same.1 c.load.ensures.loaded in
    c.load.ensures.same.1 ∙ c.join.ensures.same.1 ∙ (λ i. (are.1 i, c.args.seat.now.me.1))

pub returns-clause-loaded : goal.returns-clause-loaded
returns-clause-loaded c =
    let are = met c.load.result c.args.seat.now.me c.args.other.me c.join.new.seat.me c.join.ensures.same.1 c.load.ensures.loaded in
    let now = ap (λ m. m.0) (c.load.ensures.same.1 ∙ c.join.ensures.same.1) in
    subst (λ (m : View). IsLoaded c.args.seat.now.me.0.number m) (sym now) are.2
