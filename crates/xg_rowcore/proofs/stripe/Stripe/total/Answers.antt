use Rattle.std.proofs.Common.{◌≡◌, ◌+◌, ◌*◌, ◌<◌, length, rules, arith, sym, ◌∙◌, subst}
use Rattle.std.proofs.lemmas.Int.{to_z-of_z}
use mir.Syntax.{w128}
use mir.Val.{SFits}
use Rattle.def_history.specs.History.{replay}
use Rattle.def_history.specs.Packets.{place_count}
use Rattle.xg_rowcore.specs.Stripes.{StripeHistory}
use Rattle.xg_rowcore.proofs.Adding.{row_there}
use Rattle.xg_rowcore.proofs.Histories.{replay_small}
use Rattle.xg_rowcore.proofs.stripe.Stripe.total.Goals as goal

pub returns-clause-small : goal.returns-clause-small
returns-clause-small g c =
    let totals = c.self.invariant.2 in
    let there : c.args.place < place_count c.self.inside.stripes g.N.RowName.rows c.self.inside.index =
    subst (λ (h : StripeHistory). c.args.place < place_count h.stripes g.N.RowName.rows h.index) (sym c.self.view_is) c.requires in
    let under : c.args.place < length c.self.inside.totals.list = omega (arith, totals.length_is, there) in
    let row = row_there c.self.inside.stripes g.N.RowName.rows c.self.inside.index c.args.place c.self.invariant.0 there in
    let is : c.get.result ≡ replay g.N.RowName.amount c.self.inside.order.items (c.args.place * c.self.inside.stripes + c.self.inside.index) =
    c.get.ensures ∙ totals.replayed c.args.place under in
    let fits : SFits w128 c.get.result = search rules in
    rw (to_z-of_z w128 c.get.result fits, is) (replay_small g.N.RowName.amount g.N.RowName.jobs _ _ _ c.self.invariant.1 (g.N.RowName.small _ row))
