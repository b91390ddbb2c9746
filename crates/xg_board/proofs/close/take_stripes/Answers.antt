use Rattle.std.proofs.Common.{◌≡◌, ◌≤◌, ◌+◌, ◌^◌, ◌++◌, [], ◌∷◌, List, ℕ, length, arith, refl, sym, ap, ◌∙◌, subst}
use Rattle.std.proofs.lemmas.List.{length-append}
use Rattle.def_history.specs.Core.{Right, times_right}
use Rattle.xg_locked.specs.declared.view.View.{View}
use Rattle.xg_locked.specs.Rights.{once, rights_at, seen, stripes_of}
use Rattle.xg_board.proofs.GatheredIsPlainSum.{nothing_gathered}
use Rattle.xg_board.proofs.GatheringOneStripe.{sums_small, gather_more}
use Rattle.xg_board.proofs.close.take_stripes.Goals as goal

pub loop-stripe-init : goal.loop-stripe-init
loop-stripe-init g c = record {
  here = c.requires.seat.0;
  view =
      (let old : View = c.args.all.now.me.0 in let p : old.parts
      ≡ old.parts + 0 = omega arith in λ i. (
        record {
          rights = old.rights;
          tickets = old.tickets;
          parts = p i;
          number = old.number;
          met = c.requires.seat.4 i;
        },
        c.requires.seat.1 i,
      ));
  gathered = nothing_gathered _ _ _ _ _ _ c.requires.zeros.0 c.requires.zeros.1;
  one = refl;
}

pub add_totals-requires-clause-small : goal.add_totals-requires-clause-small
add_totals-requires-clause-small g c =
    let i = c.loop-stripe.invariant in
    let old : View = c.args.all.now.me.0 in
    let was : View = c.loop-stripe.all.me.0 in
    let theirs : View = c.into_parts-stripe.result.1.me.0 in
    let number : was.number ≡ old.number = ap (λ m. m.0.number) i.view in
    let at_most : (j s : ℕ) → times_right j s (was.rights ++ theirs.rights) ≤ once was.number j s =
    λ j s. subst (λ (v : List Right). times_right j s v ≤ once was.number j s) (ap (λ m. m.0.rights) c.meet.ensures.view)
    (c.meet.ensures.loaded.once_at_most j s) in
    sums_small g.N.RowName.jobs g.N.RowName.rows (stripes_of was.number) was.number g.N.RowName.amount old.rights was.rights theirs.rights _
    (2 ^ 98) (rw number i.gathered) at_most g.N.RowName.small

pub loop-stripe-preserved : goal.loop-stripe-preserved
loop-stripe-preserved g c =
    let i = c.loop-stripe.invariant in
    let old : View = c.args.all.now.me.0 in
    let was : View = c.loop-stripe.all.me.0 in
    let theirs : View = c.into_parts-stripe.result.1.me.0 in
    let h = c.into_parts-stripe.result.0 in
    let kept = c.into_parts-stripe.ensures.kept in
    let number : was.number ≡ old.number = ap (λ m. m.0.number) i.view in
    let same : h.stripes ≡ stripes_of old.number = sym kept.stripes ∙ ap stripes_of (sym c.meet.ensures.numbers ∙ number) in
    let now : c.meet.new.seat.me.0.rights ≡ was.rights ++ theirs.rights = ap (λ m. m.0.rights) c.meet.ensures.view in
    let rights : c.meet.new.seat.me.0.rights ≡ was.rights ++ rights_at h.index h.order =
    now ∙ ap (λ rs. was.rights ++ rs) (ap (λ m. m.0.rights) kept.me_is) in
    let tickets : was.tickets + theirs.tickets ≡ old.tickets =
    omega (arith, ap (λ m. m.0.tickets) i.view, ap (λ m. m.0.tickets) kept.me_is) in
    let parts : was.parts + theirs.parts ≡ old.parts + length (c.loop-stripe.yielded ++ c.in-Some.stripe ∷ []) =
    omega (arith, ap (λ m. m.0.parts) i.view, ap (λ m. m.0.parts) kept.me_is, length-append c.loop-stripe.yielded (c.in-Some.stripe ∷ [])) in
    record {
      here = c.meet.ensures.same ∙ i.here;
      view = c.meet.ensures.view ∙ (λ k. (seen (sym now k) (tickets k) (parts k) (number k), (i.view k).1));
      gathered =
          rw rights
          (gather_more g.N.RowName.jobs g.N.RowName.rows (stripes_of old.number) g.N.RowName.amount old.rights was.rights _ _ h same
          c.history_is_legal.ensures.legal.named c.add_totals.ensures.added i.gathered);
      one = c.add_totals.ensures.one ∙ i.one;
    }
