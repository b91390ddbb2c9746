use Rattle.std.proofs.Common.{[], ◌∷◌, arith, sym, subst, length-append}
use Rattle.std.specs.Prelude.{Contains}
use Rattle.xg_rowcore.specs.Stripes.{StripeHistory}
use Rattle.xg_rowcore.proofs.Adding.{totals_with_job, row_there}
use Rattle.xg_rowcore.proofs.Histories.{length_legal, legal_push, replay_small}
use Rattle.xg_rowcore.proofs.stripe.Stripe.add.Goals as goal

pub add_rows-requires-clause-small : goal.add_rows-requires-clause-small
add_rows-requires-clause-small g c = λ place under.
    let totals = c.self.invariant.2 in
    let row = row_there c.self.inside.stripes g.N.RowName.rows c.self.inside.index place c.self.invariant.0 (omega (arith, totals.length_is, under)) in
    rw (totals.replayed place under) (replay_small g.N.RowName.amount g.N.RowName.jobs _ _ _ c.self.invariant.1 (g.N.RowName.small _ row))

pub push_reserved-requires : goal.push_reserved-requires
push_reserved-requires g c =
    let absent = subst (λ (h : StripeHistory). Contains h.order c.args.packet.now.job → ⊥) (sym c.self.view_is) c.requires.new in
    let more = length_legal _ _ (legal_push _ _ _ c.self.invariant.1 c.requires.job absent) in
    let l = length-append c.self.inside.order.items (c.args.packet.now.job ∷ []) in
    omega (arith, more, l, c.self.inside.order.ok.0, c.self.invariant.3)

pub invariant_of-self : goal.invariant_of-self
invariant_of-self g c =
    let absent = subst (λ (h : StripeHistory). Contains h.order c.args.packet.now.job → ⊥) (sym c.self.view_is) c.requires.new in
    let legal = legal_push _ _ _ c.self.invariant.1 c.requires.job absent in
    let totals = totals_with_job g.N.RowName.rows g.N.RowName.amount _ _ _ _ _ c.args.packet.now.job c.args.packet.now.entries.list
    c.self.invariant.0 c.self.invariant.2 c.requires.packet c.add_rows.ensures in
    let order = c.push_reserved.ensures.items in
    let room = c.push_reserved.ensures.capacity in
    (c.self.invariant.0, rw order legal, rw order totals, omega (arith, room, c.self.invariant.3), c.self.invariant.4, c.self.invariant.5)
