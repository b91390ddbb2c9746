use Rattle.std.proofs.Common.{◌≡◌, ap, ◌∙◌, unsigned_abs, to_z, of_z, arith}
use Rattle.std.specs.Int.{w128}
use Rattle.std.proofs.lemmas.Int.{to_z-of_z, ints}
use Rattle.xg_frac.specs.PartsBack.{den_back}
use Rattle.xg_frac.proofs.PartLemmas.{in_lowest_terms}
use Rattle.xg_frac.proofs.fraction.in_lowest_terms.Goals as goal

pub reduced-requires : goal.reduced-requires
reduced-requires c =
    let same : unsigned_abs (to_z w128 (of_z w128 c.args.den)) ≡ unsigned_abs c.args.den = ap unsigned_abs (to_z-of_z w128 c.args.den c.ranges.den) in
    let whole = den_back c.args.den c.requires in
    omega (arith, ints, c.unsigned_abs-2.ensures.value, same, whole)

pub returns : goal.returns
returns c =
    in_lowest_terms _ c.reduced.result _ c.args.num _ c.unsigned_abs.result c.unsigned_abs-2.result (unsigned_abs c.args.den) c.ok_or.ensures.value
    (to_z-of_z w128 c.args.num c.ranges.num) c.unsigned_abs.ensures.value
    (c.unsigned_abs-2.ensures.value ∙ ap unsigned_abs (to_z-of_z w128 c.args.den c.ranges.den)) c.reduced.ensures
