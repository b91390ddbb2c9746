use Rattle.std.proofs.Common.{All, map, sym, subst, arith}
use Rattle.std.proofs.lemmas.Bool.{false≢true}
use Rattle.std.proofs.lemmas.List.{get_or-map, length-map}
use Rattle.std.proofs.lemmas.List.Elements.{All-map}
use Rattle.xg_jobs.specs.Entries.{small_leaf, wide_leaf}
use Rattle.xg_jobs.specs.Groups.{IsTiny}
use Rattle.xg_jobs.proofs.packing.WideEntryMergedEntry.pack.Goals as goal

pub returns-in_ok-packed-2-clause-smallest : goal.returns-in_ok-packed-2-clause-smallest
returns-in_ok-packed-2-clause-smallest c =
    let small = c.in_ok-packed-2.field-0.items in
    let wide = c.args.entries.items in
    λ all_tiny.
    let leaves : All IsTiny (map wide_leaf wide) =
    subst (λ es. All IsTiny (map wide_leaf es)) c.deref-then-have_room-2.ensures.value
    (subst (All IsTiny) c.in_ok-packed-2.ensures (All-map IsTiny small_leaf small all_tiny)) in
    let tiny : All (λ e. IsTiny (wide_leaf e)) wide =
    λ k d low. subst IsTiny (get_or-map wide_leaf wide k d (wide_leaf d) low) (leaves k (wide_leaf d) (omega (arith, low, length-map wide wide_leaf))) in
    false≢true (c.if-have_room.ensures.1 (subst (All (λ e. IsTiny (wide_leaf e))) (sym c.deref.ensures.value) tiny))
