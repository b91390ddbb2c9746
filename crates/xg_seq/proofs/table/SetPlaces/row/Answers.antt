use Rattle.std.proofs.Common.{◌-◌, ◌<◌, length, arith, ap}
use Rattle.std.proofs.lemmas.List.{length-map}
use Rattle.def_plan.specs.Form.{InformationSet, sequence_count}
use Rattle.xg_seq.specs.Table.{set_of_row}
use Rattle.xg_seq.proofs.RowLemmas.{row_in_place}
use Rattle.xg_seq.proofs.table.SetPlaces.row.Goals as goal

pub returns-clause-some : goal.returns-clause-some
returns-clause-some c =
    let rows = c.self.inside.rows.items in
    let there : c.args.set - 1 < length rows = omega (arith, length-map rows set_of_row, ap (length {A = InformationSet}) c.self.view_is) in
    (row_in_place rows c.self.inside.set_numbers.items (c.args.set - 1) c.index.result.now c.self.invariant there c.index.ensures).0

pub returns-clause-earlier : goal.returns-clause-earlier
returns-clause-earlier c =
    let rows = c.self.inside.rows.items in
    let there : c.args.set - 1 < length rows = omega (arith, length-map rows set_of_row, ap (length {A = InformationSet}) c.self.view_is) in
    (row_in_place rows c.self.inside.set_numbers.items (c.args.set - 1) c.index.result.now c.self.invariant there c.index.ensures).1

pub returns-clause-inside : goal.returns-clause-inside
returns-clause-inside c =
    let rows = c.self.inside.rows.items in
    let there : c.args.set - 1 < length rows = omega (arith, length-map rows set_of_row, ap (length {A = InformationSet}) c.self.view_is) in
    let placed = row_in_place rows c.self.inside.set_numbers.items (c.args.set - 1) c.index.result.now c.self.invariant there c.index.ensures in
    omega (arith, placed.2, ap sequence_count c.self.view_is)
