use Rattle.std.proofs.Common.{◌-◌, ◌<◌, ◌∙◌, [], ap, arith, length, slice_index_or}
use Rattle.xg_cert.proofs.Cuts.{group_at, length-cut_at}
use Rattle.xg_cert.proofs.printed.PlanLines.weights.Goals as goal

pub index-requires : goal.index-requires
index-requires c =
    omega (
      arith,
      c.requires.from_one,
      c.requires.there,
      ap (λ w. length w.weights) c.self.view_is,
      length-cut_at c.self.inside.starts.items c.self.inside.numbers.items,
    )

pub index-requires-2 : goal.index-requires-2
index-requires-2 c =
    omega (
      arith,
      c.requires.from_one,
      c.requires.there,
      ap (λ w. length w.weights) c.self.view_is,
      length-cut_at c.self.inside.starts.items c.self.inside.numbers.items,
    )

pub between-requires-clause-rise : goal.between-requires-clause-rise
between-requires-clause-rise c =
    let below : c.args.set < length c.self.inside.starts.items =
    omega (
      arith,
      c.requires.from_one,
      c.requires.there,
      ap (λ w. length w.weights) c.self.view_is,
      length-cut_at c.self.inside.starts.items c.self.inside.numbers.items,
    ) in
    (group_at c.self.inside.starts.items c.self.inside.numbers.items c.args.set _ _ c.self.invariant.rise c.requires.from_one below c.index.ensures
    c.index-2.ensures).rise

pub between-requires-clause-within : goal.between-requires-clause-within
between-requires-clause-within c =
    let below : c.args.set < length c.self.inside.starts.items =
    omega (
      arith,
      c.requires.from_one,
      c.requires.there,
      ap (λ w. length w.weights) c.self.view_is,
      length-cut_at c.self.inside.starts.items c.self.inside.numbers.items,
    ) in
    rw c.deref.ensures.value (group_at c.self.inside.starts.items c.self.inside.numbers.items c.args.set _ _ c.self.invariant.rise c.requires.from_one below
    c.index.ensures c.index-2.ensures).within

pub returns : goal.returns
returns c =
    let below : c.args.set < length c.self.inside.starts.items =
    omega (
      arith,
      c.requires.from_one,
      c.requires.there,
      ap (λ w. length w.weights) c.self.view_is,
      length-cut_at c.self.inside.starts.items c.self.inside.numbers.items,
    ) in
    let group = group_at c.self.inside.starts.items c.self.inside.numbers.items c.args.set _ _ c.self.invariant.rise c.requires.from_one below c.index.ensures
    c.index-2.ensures in
    rw (c.between.ensures, c.deref.ensures.value) (group.group ∙ ap (λ w. slice_index_or w.weights (c.args.set - 1) []) c.self.view_is)
