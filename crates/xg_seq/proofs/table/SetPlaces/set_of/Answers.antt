use Rattle.std.proofs.Common.{◌≡◌, ◌+◌, ◌-◌, ◌<◌, List, length, map, arith, ap, subst, ◌∙◌}
use Rattle.std.proofs.lemmas.List.{get_or_default}
use Rattle.def_plan.specs.Form.{InformationSet, sequence_count}
use Rattle.xg_seq.specs.Table.{EndsAt, set_of_row}
use Rattle.xg_seq.proofs.NumberLemmas.{ends_at, numbers_for_all}
use Rattle.xg_seq.proofs.table.SetPlaces.set_of.Goals as goal

pub index-requires : goal.index-requires
index-requires c = omega (
  arith,
  c.requires.some,
  c.requires.there,
  numbers_for_all c.self.inside.rows.items c.self.inside.set_numbers.items c.self.invariant,
  ap sequence_count c.self.view_is,
)

pub returns : goal.returns
returns c =
    let count : length c.self.inside.set_numbers.items + 1 ≡ sequence_count c.args.self.now =
    numbers_for_all c.self.inside.rows.items c.self.inside.set_numbers.items c.self.invariant ∙ ap sequence_count c.self.view_is in
    let there : c.args.sequence < sequence_count (map set_of_row c.self.inside.rows.items) = omega
    (arith, c.requires.there, ap sequence_count c.self.view_is) in
    let read = c.index.ensures ∙ get_or_default c.self.inside.set_numbers.items (c.args.sequence - 1) c.index.result.now 0
    (omega (arith, c.requires.some, c.requires.there)) in
    let E : List InformationSet → Type 0 = λ sets. EndsAt sets c.args.sequence c.index.result.now in
    subst E c.self.view_is (ends_at c.self.inside.rows.items c.self.inside.set_numbers.items c.self.invariant c.args.sequence c.index.result.now c.requires.some
    there read)
