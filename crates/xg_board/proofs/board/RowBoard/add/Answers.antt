use Rattle.std.proofs.Common.{◌≡◌, ◌<◌, ◌%◌, ◌+◌, [], sym, ap, ◌∙◌, subst, rules}
use Rattle.std.proofs.lemmas.Nat.{mod_below}
use Rattle.xg_locked.specs.declared.view.View.{View}
use Rattle.xg_locked.specs.Rights.{seen}
use Rattle.xg_locked.specs.Locked.{without}
use Rattle.xg_board.specs.Visits.{HoldsLeft}
use Rattle.xg_board.specs.Holdings.{view_of}
use Rattle.xg_board.proofs.Visits.{all_left, holds_next, left_step, none_left}
use Rattle.xg_board.proofs.board.RowBoard.add.Goals as goal

pub loop-i-init : goal.loop-i-init
loop-i-init g c =
    let rights : c.into_seat-seat.result.me.0.rights ≡ c.args.pass.now.rights = search rules in
    record {
      here = search rules;
      view = search rules;
      held = subst (HoldsLeft c.args.packet.now.job c.args.self.now.stripes (c.pass.inside.worker % c.args.self.now.stripes) 0) (sym rights)
          (all_left _ _ _ c.args.pass.now.rights c.requires.rights);
    }

pub add_at-seat-requires-clause-right : goal.add_at-seat-requires-clause-right
add_at-seat-requires-clause-right g c κs within =
    let start : c.pass.inside.worker % c.args.self.now.stripes < c.args.self.now.stripes =
    mod_below c.pass.inside.worker c.args.self.now.stripes c.args.self.now.kept.some in
    holds_next _ _ _ _ _ c.loop-i.seat.me.0.rights start c.visited-stripe.ensures.0 c.visited-stripe.ensures.1 c.loop-i.invariant.held

pub loop-i-preserved : goal.loop-i-preserved
loop-i-preserved g c =
    let start : c.pass.inside.worker % c.args.self.now.stripes < c.args.self.now.stripes =
    mod_below c.pass.inside.worker c.args.self.now.stripes c.args.self.now.kept.some in
    let e = c.add_at-seat.ensures in
    let i = c.loop-i.invariant in
    let was : View = c.loop-i.seat.me.0 in
    let now : View = c.add_at-seat.result.me.0 in
    let rights : now.rights ≡ without c.args.packet.now.job c.visited-stripe.result was.rights = ap (λ m. m.0.rights) e.seat in
    let tickets : was.tickets ≡ c.into_seat-seat.result.me.0.tickets = ap (λ m. m.0.tickets) i.view in
    let number : was.number ≡ c.into_seat-seat.result.me.0.number = ap (λ m. m.0.number) i.view in
    record {
      here = e.table;
      view = e.seat ∙ (λ k. (seen (sym rights k) (tickets k) 1 (number k), []));
      held = subst (HoldsLeft c.args.packet.now.job c.args.self.now.stripes (c.pass.inside.worker % c.args.self.now.stripes) (c.loop-i.i + 1)) (sym rights)
          (left_step _ _ _ _ _ was.rights start c.visited-stripe.ensures.0 c.visited-stripe.ensures.1 i.held);
    }

pub returns-clause-given_up : goal.returns-clause-given_up
returns-clause-given_up g c =
    let start : c.pass.inside.worker % c.args.self.now.stripes < c.args.self.now.stripes =
    mod_below c.pass.inside.worker c.args.self.now.stripes c.args.self.now.kept.some in
    ap (λ vs. (view_of vs).rights) c.into_badge.ensures.2 ∙ none_left _ _ _ _ _ start c.loop-i-test.false c.loop-i.invariant.held
