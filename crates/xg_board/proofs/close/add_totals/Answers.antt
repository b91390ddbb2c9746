use Rattle.std.proofs.Common.{◌≡◌, ℕ, ◌<◌, ◌+◌, ◌*◌, ◌^◌, List, ℤ, pos, ◌+ℤ◌, refl, arith, rules, sym, ap, ◌∙◌, subst}
use Rattle.std.specs.Prelude.{slice_index_or, slice_set}
use Rattle.std.proofs.lemmas.Int.{to_z-of_z}
use mir.Syntax.{w128}
use mir.Val.{SFits, to_z, of_z}
use Rattle.def_history.specs.History.{replay}
use Rattle.def_history.specs.Packets.{place_count}
use Rattle.xg_jobs.specs.Rows.{all_rows}
use Rattle.xg_rowcore.proofs.Adding.{row_there}
use Rattle.xg_board.specs.Closing.{AddsTotalsBelow}
use Rattle.xg_board.proofs.Totals.{all_added, before_total, none_added, total_added}
use Rattle.xg_board.proofs.close.add_totals.Goals as goal

-- how many places there are, by what was read of the stripe and the rows
places_are : {places stripes rows index read_stripes read_rows read_index : ℕ} → places ≡ place_count read_stripes read_rows read_index
    → read_stripes ≡ stripes → read_rows ≡ rows → read_index ≡ index → places ≡ place_count stripes rows index
places_are is stripes_are rows_are index_is = is ∙ (λ i. place_count (stripes_are i) (rows_are i) (index_is i))

-- the row at a place, by what was read of its stripe
row_at : (place : ℕ) {stripes index read_stripes read_index : ℕ} → read_stripes ≡ stripes → read_index ≡ index
    → place * read_stripes + read_index ≡ place * stripes + index
row_at place stripes_are index_is i = place * stripes_are i + index_is i

pub row_count-requires : goal.row_count-requires
row_count-requires g c = subst (λ n. n < 2 ^ 32) (sym c.requires.count) c.history_is_legal.ensures.rows

pub loop-place-init : goal.loop-place-init
loop-place-init g c = record { added = none_added g.N.RowName.amount c.args.stripe.now (all_rows c.args.rows.now); one = refl }

pub add_at-requires-clause-small : goal.add_at-requires-clause-small
add_at-requires-clause-small g c =
    let h = c.args.stripe.now in
    let row = c.loop-place.place * h.stripes + h.index in
    let row_is = row_at c.loop-place.place c.stripes-stripes.ensures c.index-index.ensures in
    let count = c.row_count.ensures ∙ c.requires.count in
    let places = places_are c.place_count-places.ensures c.stripes-stripes.ensures count c.index-index.ensures in
    let inside = row_there _ _ _ _ c.history_is_legal.ensures.index (subst (λ n. c.loop-place.place < n) places c.loop-place-test.true) in
    let was = before_total g.N.RowName.amount h c.loop-place.place row (all_rows c.args.rows.now) (all_rows c.loop-place.rows)
    c.history_is_legal.ensures.index refl (subst (λ n. row < n) (sym c.requires.count) inside) c.loop-place.invariant.added in
    let at = ap (λ (r : ℕ). slice_index_or (all_rows c.loop-place.rows) r (pos 0)) row_is ∙ was in
    let f : SFits w128 c.total.result = search rules in
    let same : to_z w128 (of_z w128 c.total.result) ≡ c.total.result = to_z-of_z w128 _ f in
    rw (same, at) (omega (arith, c.requires.small row inside, c.total.ensures.small))

pub loop-place-preserved : goal.loop-place-preserved
loop-place-preserved g c =
    let h = c.args.stripe.now in
    let row = c.loop-place.place * h.stripes + h.index in
    let count = c.row_count.ensures ∙ c.requires.count in
    let places = places_are c.place_count-places.ensures c.stripes-stripes.ensures count c.index-index.ensures in
    let inside = row_there _ _ _ _ c.history_is_legal.ensures.index (subst (λ n. c.loop-place.place < n) places c.loop-place-test.true) in
    let rows : List ℤ = all_rows c.loop-place.rows in
    let row_is = row_at c.loop-place.place c.stripes-stripes.ensures c.index-index.ensures in
    let f : SFits w128 c.total.result = search rules in
    let total : to_z w128 (of_z w128 c.total.result) ≡ replay g.N.RowName.amount h.order row = to_z-of_z w128 _ f ∙ c.total.ensures.replayed in
    let now = c.add_at.ensures.rows ∙ (λ k. slice_set rows (row_is k) (slice_index_or rows (row_is k) (pos 0) +ℤ total k)) in
    let below = subst (λ n. row < n) (sym c.requires.count ∙ sym c.loop-place.invariant.added.same) inside in
    record {
      added = subst (AddsTotalsBelow g.N.RowName.amount h (c.loop-place.place + 1) (all_rows c.args.rows.now)) (sym now)
          (total_added g.N.RowName.amount h c.loop-place.place row (all_rows c.args.rows.now) (all_rows c.loop-place.rows)
          (replay g.N.RowName.amount h.order row) c.history_is_legal.ensures.index refl below refl c.loop-place.invariant.added);
      one = c.add_at.ensures.one ∙ c.loop-place.invariant.one;
    }

pub returns-clause-added : goal.returns-clause-added
returns-clause-added g c =
    let h = c.args.stripe.now in
    let count = c.row_count.ensures ∙ c.requires.count in
    let places = places_are c.place_count-places.ensures c.stripes-stripes.ensures count c.index-index.ensures in
    let last : c.loop-place.place ≡ c.place_count-places.result = omega (arith, c.loop-place-test.false, c.loop-place.auto.place-end) in
    all_added g.N.RowName.amount h c.loop-place.place g.N.RowName.rows (all_rows c.args.rows.now) (all_rows c.loop-place.rows) c.history_is_legal.ensures.index
    c.requires.count (last ∙ places) c.loop-place.invariant.added
