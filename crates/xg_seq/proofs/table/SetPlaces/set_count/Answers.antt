use Rattle.std.proofs.Common.{map, arith}
use Rattle.std.proofs.lemmas.List.{length-map}
use Rattle.xg_seq.specs.Table.{set_of_row}
use Rattle.xg_seq.proofs.RowLemmas.{sets_are_few}
use Rattle.xg_seq.proofs.table.SetPlaces.set_count.Goals as goal

pub overflow_cast-result : goal.overflow_cast-result
overflow_cast-result c =
    omega (
      arith,
      c.len.ensures,
      length-map c.self.inside.rows.items set_of_row,
      sets_are_few 1 (map set_of_row c.self.inside.rows.items) c.self.invariant.order,
      c.self.invariant.limit,
    )
