use Rattle.std.proofs.Common.{◌≡◌, ℕ, ◌+◌, ◌^◌, ◌<◌, ℤ, pos, ◌+ℤ◌, ◌*ℤ◌, unsigned_abs, slice_index, map, to_z, of_z, arith, ap, rules}
use Rattle.def_plan.specs.FormRows.{amount_of}
use mir.Syntax.{w128}
use Rattle.std.specs.List.{range_with_len}
use Rattle.def_sums.specs.Sum.{sum_over}
use Rattle.def_sums.proofs.Ranges.{at_most_sum}
use Rattle.xg_closer.proofs.Growing.{read_back}
use Rattle.xg_closer.proofs.Sums.{front_size, range_more}
use Rattle.xg_closer.proofs.closing.value_of_set.Goals as goal

pub product-requires : goal.product-requires
product-requires g c =
    let first : ℕ = c.args.place.first in
    let at : ℕ = first + c.loop-i.i in
    let term : ℕ → ℤ = λ s. pos (slice_index c.args.play.now s) *ℤ amount_of (map g.W.Worth.amount c.args.worths.now) s in
    let worth_is = read_back c.worth_at.result _ (search rules) c.worth_at.ensures in
    let own : unsigned_abs (term at) < 2 ^ 126 = omega (
      arith,
      at_most_sum (λ s. unsigned_abs (term s)) first c.args.place.actions at (omega arith) (omega arith),
      c.requires.products,
    ) in
    rw worth_is own

pub plus-sum-requires : goal.plus-sum-requires
plus-sum-requires g c =
    let first : ℕ = c.args.place.first in
    let term : ℕ → ℤ = λ s. pos (slice_index c.args.play.now s) *ℤ amount_of (map g.W.Worth.amount c.args.worths.now) s in
    let worth_is = read_back c.worth_at.result _ (search rules) c.worth_at.ensures in
    let product_is = read_back c.product.result _ (search rules) c.product.ensures in
    let more = range_more term first c.loop-i.i in
    let next : to_z w128 c.loop-i.sum-bits +ℤ to_z w128 (of_z w128 c.product.result)
    ≡ sum_over term (range_with_len first (c.loop-i.i + 1)) = cc c.loop-i.invariant in
    omega (arith, ap unsigned_abs next, front_size term first (c.loop-i.i + 1) c.args.place.actions (omega arith), c.requires.products)

pub loop-i-preserved : goal.loop-i-preserved
loop-i-preserved g c =
    let first : ℕ = c.args.place.first in
    let term : ℕ → ℤ = λ s. pos (slice_index c.args.play.now s) *ℤ amount_of (map g.W.Worth.amount c.args.worths.now) s in
    let worth_is = read_back c.worth_at.result _ (search rules) c.worth_at.ensures in
    let product_is = read_back c.product.result _ (search rules) c.product.ensures in
    let more = range_more term first c.loop-i.i in
    let sum_is = read_back c.plus-sum.result _ (search rules) c.plus-sum.ensures in
    cc c.loop-i.invariant
