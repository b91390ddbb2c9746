use Rattle.std.proofs.Common.{◌≡◌, ◌+◌, ◌<◌, length, ap, sym, subst, ◌∙◌, arith}
use Rattle.std.specs.Prelude.{slice_index}
use Rattle.std.proofs.lemmas.Grind.{get_or_default_zero}
use Rattle.def_history.specs.History.{stripe_of}
use Rattle.xg_rowcore.specs.Chains.{IsNextOf, rows_of_entries}
use Rattle.xg_rowcore.specs.Packets.{entry_in}
use Rattle.xg_rowcore.proofs.Viewed.{counted, row_seen, rows_seen}
use Rattle.xg_rowcore.proofs.entries.RowEntries.next_of.Goals as goal

pub index-requires : goal.index-requires
index-requires c =
    let count = counted _ _ c.self.invariant.0 c.self.view_is in
    let kept = c.self.invariant.4 in
    omega (arith, count, c.requires.there, c.self.invariant.3, kept.next_count, c.self.inside.chains.next.ok.0)

pub index-requires-else-self-stripes : goal.index-requires-else-self-stripes
index-requires-else-self-stripes c =
    omega (arith, counted _ _ c.self.invariant.0 c.self.view_is, c.requires.there, c.self.inside.rows.ok.0)

pub overflow_add-i : goal.overflow_add-i
overflow_add-i c =
    omega (arith, counted _ _ c.self.invariant.0 c.self.view_is, c.requires.there, c.self.inside.rows.ok)

pub seek-requires-clause-from : goal.seek-requires-clause-from
seek-requires-clause-from c =
    omega (arith, counted _ _ c.self.invariant.0 c.self.view_is, c.requires.there, ap length c.deref.ensures.value)

pub returns-then-self-stripes : goal.returns-then-self-stripes
returns-then-self-stripes c =
    let rows = c.self.inside.rows.items in
    let next = c.self.inside.chains.next.items in
    let kept = c.self.invariant.4 in
    let below : c.args.i < length rows =
    omega (arith, counted _ _ c.self.invariant.0 c.self.view_is, c.requires.there) in
    let rows_are = rows_seen _ _ c.self.invariant.0 c.self.view_is in
    let row : slice_index c.self.inside.rows.items c.args.i ≡ (entry_in c.args.self.now.list c.args.i).row =
    row_seen _ _ c.self.invariant.0 c.self.view_is c.args.i in
    let is : c.self.inside.chains.stripes ≡ c.args.stripes = c.if-self-stripes.true in
    let linked = kept.linked (omega (arith, is, c.requires.stripes)) in
    let found = linked.nexts c.args.i (omega arith) below in
    let known : c.args.i < length next = omega (arith, below, kept.next_count, c.self.invariant.3) in
    let result : c.index.result.now ≡ slice_index next c.args.i =
    c.index.ensures ∙ get_or_default_zero next c.args.i c.index.result.now known in
    rw (sym row, sym rows_are, result, sym is) found

pub returns-else-self-stripes : goal.returns-else-self-stripes
returns-else-self-stripes c =
    let rows = c.self.inside.rows.items in
    let below : c.args.i < length rows =
    omega (arith, counted _ _ c.self.invariant.0 c.self.view_is, c.requires.there) in
    let read = c.index-else-self-stripes.result.now in
    let row : read ≡ (entry_in c.args.self.now.list c.args.i).row =
    c.index-else-self-stripes.ensures ∙ get_or_default_zero c.self.inside.rows.items c.args.i read below
    ∙ row_seen _ _ c.self.invariant.0 c.self.view_is c.args.i in
    let rows_are = c.deref.ensures.value ∙ rows_seen _ _ c.self.invariant.0 c.self.view_is in
    subst (λ r. IsNextOf c.args.stripes (stripe_of c.args.stripes r) (rows_of_entries c.args.self.now.list) (c.args.i + 1) c.seek.result) row
    (subst (λ rs. IsNextOf c.args.stripes (stripe_of c.args.stripes read) rs (c.args.i + 1) c.seek.result) rows_are
    (subst (λ k. IsNextOf c.args.stripes k c.deref.result.now (c.args.i + 1) c.seek.result) c.stripe_of.ensures c.seek.ensures))
