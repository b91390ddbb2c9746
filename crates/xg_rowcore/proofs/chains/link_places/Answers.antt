use Rattle.std.proofs.Common.{◌≡◌, ℕ, ◌+◌, ◌-◌, ◌<◌, subst, sym, arith}
use Rattle.std.specs.Prelude.{slice_index}
use Rattle.std.proofs.Math.Nat.{mod-lt}
use Rattle.def_history.specs.History.{stripe_of}
use Rattle.xg_rowcore.specs.Chains.{AreChains}
use Rattle.xg_rowcore.proofs.Chaining.{none_linked, linked_more}
use Rattle.xg_rowcore.proofs.chains.link_places.Goals as goal

pub loop-i-init : goal.loop-i-init
loop-i-init c = none_linked c.args.stripes c.args.rows.now c.args.first.now c.args.next.now c.requires.none

pub loop-i-preserved : goal.loop-i-preserved
loop-i-preserved c =
    let i : ℕ = c.loop-i.i - 1 in
    let i_is : c.loop-i.i ≡ i + 1 = omega (arith, c.loop-i-test.true) in
    let stripe : ℕ = c.stripe_of-stripe.result in
    let stripe_is : stripe ≡ stripe_of c.args.stripes (slice_index c.args.rows.now i) = c.stripe_of-stripe.ensures in
    let few : stripe < c.args.stripes =
    subst (λ k. k < c.args.stripes) (sym stripe_is) (mod-lt (slice_index c.args.rows.now i) (omega (arith, c.requires.stripes.0))) in
    let linked = subst (λ k. AreChains k c.args.stripes c.args.rows.now c.loop-i.first c.loop-i.next) i_is c.loop-i.invariant in
    linked_more i stripe c.args.stripes c.args.rows.now c.loop-i.first c.loop-i.next stripe_is (omega arith) (omega arith)
    (omega (arith, few, c.requires.stripes.1)) few linked
