use Rattle.std.proofs.Common.{arith, ap}
use Rattle.def_plan.specs.Form.{sequence_count}
use Rattle.xg_seq.proofs.NumberLemmas.{numbers_for_all}
use Rattle.xg_seq.proofs.table.SetPlaces.sequence_count.Goals as goal

pub overflow_cast-result : goal.overflow_cast-result
overflow_cast-result c = omega (
  arith,
  c.len.ensures,
  numbers_for_all c.self.inside.rows.items c.self.inside.set_numbers.items c.self.invariant,
  c.self.invariant.limit,
)

pub overflow_add-result : goal.overflow_add-result
overflow_add-result c = omega (
  arith,
  c.len.ensures,
  numbers_for_all c.self.inside.rows.items c.self.inside.set_numbers.items c.self.invariant,
  c.self.invariant.limit,
)

pub returns-clause-count : goal.returns-clause-count
returns-clause-count c = omega (
  arith,
  c.len.ensures,
  numbers_for_all c.self.inside.rows.items c.self.inside.set_numbers.items c.self.invariant,
  ap sequence_count c.self.view_is,
)

pub returns-clause-limit : goal.returns-clause-limit
returns-clause-limit c = omega (
  arith,
  c.len.ensures,
  numbers_for_all c.self.inside.rows.items c.self.inside.set_numbers.items c.self.invariant,
  c.self.invariant.limit,
)
