use Rattle.std.proofs.Common.{◌+◌, ◌<◌, ◌≤◌, length, rules, arith, subst}
use Rattle.std.proofs.lemmas.Int.{to_z-of_z}
use mir.Syntax.{w128}
use mir.Val.{SFits}
use Rattle.std.specs.Prelude.{unsigned_abs}
use Rattle.def_sums.specs.Limits.{most_row}
use Rattle.def_history.specs.History.{place_of}
use Rattle.xg_rowcore.specs.Chains.{IsNextOf, rows_of_entries}
use Rattle.xg_rowcore.proofs.Adding.{small_before, grown_all, grown_by_none, grown_by_read, read_entry}
use Rattle.xg_rowcore.proofs.Chaining.{found_inside, found_own, grown_to_next}
use Rattle.xg_rowcore.proofs.Histories.{amount_small}
use Rattle.xg_rowcore.proofs.stripe.add_rows.Goals as goal

pub loop-i-init : goal.loop-i-init
loop-i-init g c =
    let entries = c.args.packet.now.entries.list in
    let found = c.first_of-i.ensures in
    record {
      inside = found_inside entries c.args.stripes c.args.index 0 c.first_of-i.result found;
      own = found_own entries c.args.stripes c.args.index 0 c.first_of-i.result found;
      grown = grown_to_next entries c.args.index c.args.stripes 0 c.first_of-i.result c.args.totals.now.list c.args.totals.now.list c.requires.index found
          (grown_by_none c.args.index c.args.stripes c.args.totals.now.list);
    }

pub add_entry-requires-clause-there : goal.add_entry-requires-clause-there
add_entry-requires-clause-there g c =
    let below : c.loop-i.i < length c.args.packet.now.entries.list = omega (arith, c.loop-i-test.true, c.len.ensures) in
    let own = c.loop-i.invariant.own below in
    let read = read_entry c.requires.packet below c.requires.index c.entry-row.ensures.row c.entry-row.ensures.amount own in
    omega (arith, read.there, c.requires.length, c.loop-i.invariant.grown.length_kept)

pub add_entry-requires-clause-small : goal.add_entry-requires-clause-small
add_entry-requires-clause-small g c =
    let below : c.loop-i.i < length c.args.packet.now.entries.list = omega (arith, c.loop-i-test.true, c.len.ensures) in
    let own = c.loop-i.invariant.own below in
    let read = read_entry c.requires.packet below c.requires.index c.entry-row.ensures.row c.entry-row.ensures.amount own in
    let there : place_of c.args.stripes c.entry-row.result.0 < length c.args.totals.now.list = omega (arith, read.there, c.requires.length) in
    let total = small_before c.args.packet.now.entries.list c.loop-i.i c.args.index c.args.stripes c.entry-row.result.0 most_row
    c.args.totals.now.list c.loop-i.totals.list c.requires.packet.rising below c.entry-row.ensures.row read.here there c.loop-i.invariant.grown
    c.requires.small in
    let small = amount_small g.N.RowName.amount g.N.RowName.jobs c.args.packet.now.job c.entry-row.result.0 most_row c.requires.job
    (g.N.RowName.small _ read.is_row) in
    let its : unsigned_abs c.entry-row.result.1 ≤ most_row = rw read.amount_is small in
    let fits : SFits w128 c.entry-row.result.1 = search rules in
    rw (to_z-of_z w128 c.entry-row.result.1 fits) (omega (arith, total, its))

pub loop-i-preserved : goal.loop-i-preserved
loop-i-preserved g c =
    let entries = c.args.packet.now.entries.list in
    let below : c.loop-i.i < length entries = omega (arith, c.loop-i-test.true, c.len.ensures) in
    let own = c.loop-i.invariant.own below in
    let read = read_entry c.requires.packet below c.requires.index c.entry-row.ensures.row c.entry-row.ensures.amount own in
    let fits : SFits w128 c.entry-row.result.1 = search rules in
    let entry_grown = rw (to_z-of_z w128 c.entry-row.result.1 fits, read.here) at c.add_entry.ensures in
    let grown = grown_by_read entries c.loop-i.i c.args.index c.args.stripes c.entry-row.result.0 c.entry-row.result.1 _ _ _ below
    c.entry-row.ensures.row c.entry-row.ensures.amount c.loop-i.invariant.grown entry_grown in
    let found = subst (λ k. IsNextOf c.args.stripes k (rows_of_entries entries) (c.loop-i.i + 1) c.next_of-i.result) own c.next_of-i.ensures in
    record {
      inside = found_inside entries c.args.stripes c.args.index (c.loop-i.i + 1) c.next_of-i.result found;
      own = found_own entries c.args.stripes c.args.index (c.loop-i.i + 1) c.next_of-i.result found;
      grown = grown_to_next entries c.args.index c.args.stripes (c.loop-i.i + 1) c.next_of-i.result _ _ c.requires.index found grown;
    }

pub returns : goal.returns
returns g c =
    let all : length c.args.packet.now.entries.list ≤ c.loop-i.i = omega (arith, c.loop-i-test.false, c.len.ensures) in
    grown_all c.args.packet.now.entries.list c.loop-i.i c.args.index c.args.stripes _ _ all c.loop-i.invariant.grown
