use Rattle.std.proofs.Common.{◌≡◌, ◌+◌, ◌++◌, [], ap, ◌∙◌, subst}
use Rattle.atomic_table.specs.Table.{Me}
use Rattle.xg_locked.specs.declared.view.View.{View}
use Rattle.xg_locked.specs.Rights.{rights_at, seen, IsLoaded}
use Rattle.xg_rowcore.specs.Stripes.{StripeHistory}
use Rattle.xg_locked.specs.Locked.{number_met, without}
use Rattle.xg_locked.proofs.RightsMoveUnderLocks.{Opened, gives_right, opened, job_is_new}
use Rattle.xg_locked.proofs.stripe.SeatedStripe.add.Goals as goal

-- the seat of a stripe, with that of a pass joined into it
joined : (h : StripeHistory) (mine theirs now : Me (Unit {0}) View)
    → mine ≡ (seen (rights_at h.index h.order) 0 1 (number_met mine), [])
    → theirs ≡ (seen theirs.0.rights theirs.0.tickets 1 (number_met theirs), []) → mine.0.number ≡ theirs.0.number
    → now ≡ (
      seen (mine.0.rights ++ theirs.0.rights) (mine.0.tickets + theirs.0.tickets) (mine.0.parts + theirs.0.parts) mine.0.number,
      mine.1,
    )
    → Opened h.index h.order theirs.0 now.0
joined h mine theirs now mine_is theirs_are numbers now_is =
    let view : Me (Unit {0}) View → View = λ m. m.0 in
    opened h.index h.order mine.0 theirs.0 now.0 (ap view mine_is) (ap view theirs_are) numbers (ap view now_is)

pub give_others-seat-requires-clause-right : goal.give_others-seat-requires-clause-right
give_others-seat-requires-clause-right g c =
    let o = joined c.args.self.now.stripe _ _ _ c.args.self.now.kept.me_is c.requires.seat.1 c.meet.ensures.numbers c.meet.ensures.view in
    rw o.theirs c.requires.right

pub give_others-seat-requires-clause-joined : goal.give_others-seat-requires-clause-joined
give_others-seat-requires-clause-joined g c =
    (joined c.args.self.now.stripe _ _ _ c.args.self.now.kept.me_is c.requires.seat.1 c.meet.ensures.numbers c.meet.ensures.view).view

pub add-requires-clause-new : goal.add-requires-clause-new
add-requires-clause-new g c =
    let h = c.args.self.now.stripe in
    let v : View = c.args.self.now.seat.me.0 in
    let p : View = c.args.seat.me.0 in
    let o = joined c.args.self.now.stripe _ _ _ c.args.self.now.kept.me_is c.requires.seat.1 c.meet.ensures.numbers c.meet.ensures.view in
    job_is_new h.index c.args.packet.now.job v.number p.tickets p.number h.order p.rights c.requires.right
    (subst (IsLoaded v.number) o.plain c.meet.ensures.loaded)

pub returns-clause-table : goal.returns-clause-table
returns-clause-table g c = c.give_others-seat.ensures.given.0 ∙ c.meet.ensures.same ∙ c.args.self.now.kept.here

pub returns-clause-seat : goal.returns-clause-seat
returns-clause-seat g c =
    let p : View = c.args.seat.me.0 in
    let w : View = c.meet.new.seat.me.0 in
    let o = joined c.args.self.now.stripe _ _ _ c.args.self.now.kept.me_is c.requires.seat.1 c.meet.ensures.numbers c.meet.ensures.view in
    let tickets : w.tickets ≡ p.tickets = ap (λ (u : View). u.tickets) o.plain in
    let number : w.number ≡ p.number = ap (λ (u : View). u.number) o.plain in
    c.give_others-seat.ensures.given.1
    ∙ (λ i. (seen (without c.args.packet.now.job c.args.self.now.stripe.index (o.theirs i)) (tickets i) 1 (number i), []))

pub returns-clause-step : goal.returns-clause-step
returns-clause-step g c =
    let h = c.args.self.now.stripe in
    let o = joined c.args.self.now.stripe _ _ _ c.args.self.now.kept.me_is c.requires.seat.1 c.meet.ensures.numbers c.meet.ensures.view in
    gives_right h.index c.args.packet.now.job h.order _ c.args.seat.me.0.rights _ c.requires.right
    (ap (λ (x : StripeHistory). x.order) c.add.ensures)
    (ap (λ m. m.0.rights) c.give_others-seat.ensures.given.1 ∙ (λ i. without c.args.packet.now.job h.index (o.theirs i)))
