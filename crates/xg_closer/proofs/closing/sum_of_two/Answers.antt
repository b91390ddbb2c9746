use Rattle.std.proofs.Common.{◌≡◌, ℕ, ◌+◌, ℤ, pos, ◌*ℤ◌, slice_index, FitsSigned, map, to_z, of_z, ap, sym, rules, ◌∙◌}
use Rattle.def_plan.specs.FormRows.{amount_of}
use mir.Syntax.{w128}
use Rattle.std.specs.List.{range_with_len}
use Rattle.std.proofs.lemmas.Int.{to_z-of_z}
use Rattle.def_sums.specs.Sum.{sum_over}
use Rattle.def_sums.proofs.RingLaws.{+ℤ-zero}
use Rattle.xg_closer.proofs.closing.sum_of_two.Goals as goal

pub returns : goal.returns
returns g c =
    let first : ℕ = c.args.place.first in
    let x : ℤ = amount_of (map g.W.Worth.amount c.args.worths.now) first in
    let y : ℤ = amount_of (map g.W.Worth.amount c.args.worths.now) (first + 1) in
    let term : ℕ → ℤ = λ s. pos (slice_index c.args.play.now s) *ℤ amount_of (map g.W.Worth.amount c.args.worths.now) s in
    let fits_x : FitsSigned w128 c.worth_at.result = search rules in
    let fits_y : FitsSigned w128 c.worth_at-2.result = search rules in
    let x_is : to_z w128 (of_z w128 c.worth_at.result) ≡ x = to_z-of_z w128 c.worth_at.result fits_x ∙ c.worth_at.ensures in
    let y_is : to_z w128 (of_z w128 c.worth_at-2.result) ≡ y = to_z-of_z w128 c.worth_at-2.result fits_y ∙ c.worth_at-2.ensures in
    let fits_a : FitsSigned w128 c.product-a.result = search rules in
    let a_is : to_z w128 (of_z w128 c.product-a.result) ≡ c.product-a.result = to_z-of_z w128 c.product-a.result fits_a in
    let fits_b : FitsSigned w128 c.product-b.result = search rules in
    let b_is : to_z w128 (of_z w128 c.product-b.result) ≡ c.product-b.result = to_z-of_z w128 c.product-b.result fits_b in
    let fits_sum : FitsSigned w128 c.plus.result = search rules in
    let sum_is : to_z w128 (of_z w128 c.plus.result) ≡ c.plus.result = to_z-of_z w128 c.plus.result fits_sum in
    let none = +ℤ-zero (pos (slice_index c.args.play.now (first + 1)) *ℤ y) in
    let two : to_z w128 (of_z w128 c.plus.result) ≡ sum_over term (range_with_len first 2) = cc (c.plus.ensures, c.product-a.ensures, c.product-b.ensures) in
    two ∙ ap (λ n. sum_over term (range_with_len first n)) (sym c.requires.two)
